-- Modes that are joined.
use Rattle.std.proofs.Common.{◌≡◌, ℕ, suc, zero, ◌+◌, ◌*◌, ◌/◌, ◌^◌, ◌<◌, ◌≤◌, List, [], ◌∷◌, ◌++◌, Some, None, length, map, take}
use Rattle.std.proofs.Common.{refl, sym, ap, ◌∙◌, subst, arith, ⊎_elim}
use Rattle.std.specs.Prelude.{slice_get}
use Rattle.std.specs.Int.{◌∣◌}
use Rattle.std.specs.List.{AllByRecursion, AllZip, sum_by}
use Rattle.std.proofs.Math.Nat.{div-mul_cancel, mul-le-mul_right}
use Rattle.std.proofs.Math.Seq.{take-append_seam, get_or-append_seam}
use Rattle.std.proofs.lemmas.Bool.{cases_lt}
use Rattle.std.proofs.lemmas.List.{take-append-le, length-append, length-map}
use Rattle.std.proofs.lemmas.List.Sums.{sum_by-cons, sum_by_push}
use Rattle.std.proofs.lemmas.Option.{slice_get-get_or, slice_get_within}
use Rattle.sched_base.specs.Sets.{SetContents, task_at}
use Rattle.sched_base.specs.Scale.{Fits}
use Rattle.sched_base.specs.Tables.{row_limit}
use Rattle.rate_scale.proofs.ScaleLemmas.{same_scale}
use Rattle.run_tree.specs.Compiled.{tree_of}
use Rattle.run_tree.specs.Plans.{PlanContents, IsPlan, rounds_of}
use Rattle.mode_join.specs.declared.mode.Mode.{Mode}
use Rattle.mode_join.specs.declared.faults.ModeKind.{ModeKind}
use Rattle.mode_join.specs.declared.faults.ModeKind.TheVariants as kind
use Rattle.mode_join.specs.declared.faults.ModeFault.{ModeFault}
use Rattle.mode_join.specs.declared.faults.ModeFault.TheVariants as fault
use Rattle.mode_join.specs.Joining.{CanJoin, IsPlanOf, Has, HasAt, IsFirstOf, IsFirstFlaw, CanBeJoined, SaysOf, RefusesAs, IsOverloadOf}
use Rattle.mode_join.specs.Joining.{IsTooLongAfter, processors_of, rank, rows_of}
use Rattle.mode_join.specs.Modes.{ModesContents, IsMode, AreModes, PeriodsEndIn, sets_of}
use Rattle.mode_join.proofs.JoinLemmas.{by_number, after_overload, overload_first, too_long_first}

-- the horizons of modes, all together: how many units they last
abbrev pub units_of : List Mode → ℕ
units_of modes = sum_by (λ (m : Mode). m.plan.set.horizon) modes

-- the rows of the modes' schedules, all together
abbrev pub all_rows_of : List Mode → ℕ
all_rows_of modes = sum_by (λ (m : Mode). rows_of m.plan) modes

-- ---- lists

get_seam : {X : Type 0} (xs : List X) (y : X) (ys : List X) → slice_get (xs ++ y ∷ ys) (length xs) ≡ Some y
get_seam xs y ys = slice_get-get_or (xs ++ y ∷ ys) (length xs) y (let long = length-append xs (y ∷ ys) in omega (arith, long)) ∙ ap (λ x. Some x)
    (get_or-append_seam xs y ys y)

get_front : {X : Type 0} (xs ys : List X) (i : ℕ) → i < length xs → slice_get (xs ++ ys) i ≡ slice_get xs i
get_front [] ys i below = absurd (omega (arith, below))
get_front (x ∷ xs) ys zero below = refl
get_front (x ∷ xs) ys (suc i) below = get_front xs ys i (omega (arith, below))

pub all_push : {X : Type 0} (P : X → Type 0) (xs : List X) (x : X) → AllByRecursion P xs → P x → AllByRecursion P (xs ++ x ∷ [])
all_push P [] x all here = (here, tt)
all_push P (y ∷ xs) x all here = (all.0, all_push P xs x all.1 here)

all_map : {X : Type 0} (P Q : X → Type 0) → ((x : X) → P x → Q x) → (xs : List X) → AllByRecursion P xs → AllByRecursion Q xs
all_map P Q f [] all = tt
all_map P Q f (x ∷ xs) all = (f x all.0, all_map P Q f xs all.1)

-- ---- numbers

-- the rows of a mode: one at least
some_rows : (m : ℕ) → 1 ≤ m → (mode : Mode) → IsMode m mode → 1 ≤ rows_of mode.plan
some_rows m some mode is =
    let rounds = is.rounds in
    let more = is.some_rounds in
    let same = is.can_join.same_processors in
    let least : 1 ≤ rounds_of mode.plan = omega (arith, rounds, more) in
    let wide : 1 ≤ mode.plan.set.processors = omega (arith, same, some) in
    grind (arith, least, wide)

-- there are at most as many modes as rows
pub few_modes : (m : ℕ) → 1 ≤ m → (modes : List Mode) → AllByRecursion (IsMode m) modes → length modes ≤ all_rows_of modes
few_modes m some [] all = omega arith
few_modes m some (mode ∷ modes) all =
    let here = some_rows m some mode all.0 in
    let rest = few_modes m some modes all.1 in
    let sum = sum_by-cons (λ (x : Mode). rows_of x.plan) mode modes in
    omega (arith, here, rest, sum)

-- a mode has less than 2^32 units
pub few_units : (m : ℕ) (modes : List Mode) → AllByRecursion (IsMode m) modes → units_of modes ≤ length modes * 2 ^ 32
few_units m [] all = omega arith
few_units m (mode ∷ modes) all =
    let here = all.0.lawful.lawful.horizon_fits in
    let rest = few_units m modes all.1 in
    let sum = sum_by-cons (λ (x : Mode). x.plan.set.horizon) mode modes in
    omega (arith, here, rest, sum)

-- a period that begins before a multiple of periods ends by it
period_ends : (t h k : ℕ) → t ∣ h → k * t < h → (k + 1) * t ≤ h
period_ends t h k divides before =
    let whole = div-mul_cancel t divides in
    ⊎_elim
    (λ less. let most = mul-le-mul_right {m = k + 1} {n = h / t} t (omega (arith, less)) in omega (arith, most, whole))
    (λ past. let most = mul-le-mul_right {m = h / t} {n = k} t past in absurd (omega (arith, most, whole, before)))
    (cases_lt k (h / t))

periods_end : (m : ℕ) (mode : Mode) → IsMode m mode → PeriodsEndIn mode
periods_end m mode is i k within begins =
    let t = task_at mode.plan.set.tasks i in
    let zero_offset : t.offset ≡ 0 = by_number (λ x. x.offset ≡ 0) mode.plan.set.tasks is.can_join.can_repeat.no_offset i within in
    let divides : t.period ∣ mode.plan.set.horizon = by_number (λ x. x.period ∣ mode.plan.set.horizon) mode.plan.set.tasks
    is.can_join.can_repeat.whole_periods i within in
    let ends = period_ends t.period mode.plan.set.horizon k divides (omega (arith, begins, zero_offset)) in
    omega (arith, ends, zero_offset)

-- no period of joined modes crosses a joint
pub all_end : (m : ℕ) (modes : List Mode) → AllByRecursion (IsMode m) modes → AllByRecursion PeriodsEndIn modes
all_end m modes all = all_map (IsMode m) PeriodsEndIn (periods_end m) modes all

-- ---- one mode more

pub modes_push : (m : ℕ) (modes : List Mode) (mode : Mode) → AreModes (record { processors = m; modes = modes }) → IsMode m mode →
    mode.start ≡ units_of modes → all_rows_of modes + rows_of mode.plan ≤ row_limit
    → AreModes (record { processors = m; modes = modes ++ mode ∷ [] })
modes_push m modes mode are is start few = record {
  some_processors = are.some_processors;
  few_processors = are.few_processors;
  each = all_push (IsMode m) modes mode are.each is;
  starts = λ j x at. ⊎_elim
      (λ before. are.starts j x (sym (get_front modes (mode ∷ []) j before) ∙ at)
      ∙ ap units_of (sym (take-append-le j modes (mode ∷ []) (omega (arith, before)))))
      (λ past.
      let within = slice_get_within (modes ++ mode ∷ []) j x at in
      let long = length-append modes (mode ∷ []) in
      let last : j ≡ length modes = omega (arith, past, within, long) in
      let same : Some x ≡ Some mode = sym at ∙ ap (slice_get (modes ++ mode ∷ [])) last ∙ get_seam modes mode [] in
      let same' : x ≡ mode = cc in
      ap (λ (y : Mode). y.start) same' ∙ start ∙ ap units_of (sym (ap (λ n. take n (modes ++ mode ∷ [])) last ∙ take-append_seam modes (mode ∷ []))))
      (cases_lt j (length modes));
  few_rows = let sum = sum_by_push (λ (x : Mode). rows_of x.plan) modes mode in omega (arith, sum, few);
}

-- ---- what is wrong with a set

same_plan : (s : SetContents) (p q : PlanContents) → IsPlanOf s p → IsPlanOf s q → p ≡ q
same_plan s p q a b =
    let scale = same_scale s.tasks p.tree.scale q.tree.scale a.scale b.scale in
    let set : p.set ≡ q.set = a.set ∙ sym b.set in
    let tree : p.tree ≡ q.tree = a.tree ∙ ap (λ n. tree_of n s) scale ∙ sym b.tree in
    λ i. record { set = set i; tree = tree i }

-- the plans of the first sets and of the next one have no more rows than all modes
rows_up_to : (m : ℕ) (modes : List Mode) → AllByRecursion (IsMode m) modes → (j : ℕ) (s : SetContents) → slice_get (sets_of modes) j ≡ Some s
    → (plans : List PlanContents) (p : PlanContents) → AllZip IsPlanOf (take j (sets_of modes)) plans → IsPlanOf s p → sum_by rows_of plans + rows_of
    p ≤ all_rows_of modes
rows_up_to m [] all j s at plans p zip is = absurd (let e : None ≡ Some s = at in cc)
rows_up_to m (mode ∷ modes) all zero s at (q ∷ plans) p zip is = absurd zip
rows_up_to m (mode ∷ modes) all zero s at [] p zip is =
    let same : Some mode.plan.set ≡ Some s = at in
    let set : mode.plan.set ≡ s = cc in
    let plan = same_plan s p mode.plan is (subst (λ x. IsPlanOf x mode.plan) set all.0.plan) in
    let rows = ap rows_of plan in
    let sum = sum_by-cons (λ (x : Mode). rows_of x.plan) mode modes in
    omega (arith, rows, sum)
rows_up_to m (mode ∷ modes) all (suc j) s at [] p zip is = absurd zip
rows_up_to m (mode ∷ modes) all (suc j) s at (q ∷ plans) p zip is =
    let plan = same_plan mode.plan.set q mode.plan zip.0 all.0.plan in
    let rows = ap rows_of plan in
    let rest = rows_up_to m modes all.1 j s at plans p zip.1 is in
    let sum = sum_by-cons (λ (x : Mode). rows_of x.plan) mode modes in
    let sum' = sum_by-cons rows_of q plans in
    omega (arith, rows, sum, sum', rest)

mode_of : (m : ℕ) (modes : List Mode) → AllByRecursion (IsMode m) modes → (j : ℕ) (s : SetContents) → slice_get (sets_of modes) j ≡ Some s → (mode : Mode)
    × IsMode m mode × (mode.plan.set ≡ s)
mode_of m [] all j s at = absurd (let e : None ≡ Some s = at in cc)
mode_of m (mode ∷ modes) all zero s at = let same : Some mode.plan.set ≡ Some s = at in (mode, all.0, (cc))
mode_of m (mode ∷ modes) all (suc j) s at = mode_of m modes all.1 j s at

-- nothing is wrong with the set of a mode
nothing_wrong : (m : ℕ) (modes : List Mode) → AllByRecursion (IsMode m) modes → all_rows_of modes ≤ row_limit → (j : ℕ) (s : SetContents) →
    slice_get (sets_of modes) j ≡ Some s
    → (k : ModeKind) → Has m (take j (sets_of modes)) s k → ⊥
nothing_wrong m modes all few j s at k has = by_kind k has
  where
    late : (k : ModeKind) → Has m (take j (sets_of modes)) s k → 4 ≤ rank k
    late k has =
        let (mode, is, same) = mode_of m modes all j s at in
        let moved = subst (λ x. Has m (take j (sets_of modes)) x k) (sym same) has in
        after_overload m (take j (sets_of modes)) mode.plan.set is.can_join mode.plan.tree.scale is.plan.scale is.fits k moved

    by_kind : (k : ModeKind) → Has m (take j (sets_of modes)) s k → ⊥
    by_kind kind.Processors has = let l = late kind.Processors has in omega (arith, l)
    by_kind (kind.Offset task) has = let l = late (kind.Offset task) has in omega (arith, l)
    by_kind (kind.Period task) has = let l = late (kind.Period task) has in omega (arith, l)
    by_kind (kind.Overload total room) has = let l = late (kind.Overload total room) has in omega (arith, l)
    by_kind (kind.TooLong rows) has =
        let (plans, p, zip, is, over) = has.0 in
        let most = rows_up_to m modes all j s at plans p zip is in
        omega (arith, most, over, few)

-- nothing is wrong with the first sets of a list where they are those of modes
front_is_good : (m : ℕ) (modes : List Mode) → AllByRecursion (IsMode m) modes → all_rows_of modes ≤ row_limit → (rest : List SetContents) →
    processors_of (sets_of modes ++ rest) ≡ m
    → (i : ℕ) (k : ModeKind) → i < length (sets_of modes) → HasAt (sets_of modes ++ rest) i k → ⊥
front_is_good m modes all few rest wide i k below (s, at, has) =
    let front = take-append-le i (sets_of modes) rest (omega (arith, below)) in
    let moved = subst (λ n. Has n (take i (sets_of modes ++ rest)) s k) wide has in
    nothing_wrong m modes all few i s (sym (get_front (sets_of modes) rest i below) ∙ at) k (subst (λ xs. Has m xs s k) front moved)

-- the sets of modes can be joined
pub can_be_joined : (m : ModesContents) → AreModes m → (sets : List SetContents) → sets_of m.modes ≡ sets → m.processors ≡ processors_of sets → CanBeJoined sets
can_be_joined m are sets same wide j k (s, at, has) =
    let moved = subst (λ xs. slice_get xs j ≡ Some s) (sym same) at in
    let moved' = subst (λ xs. Has (processors_of sets) (take j xs) s k) (sym same) has in
    nothing_wrong m.processors m.modes are.each are.few_rows j s moved k (subst (λ n. Has n (take j (sets_of m.modes)) s k) (sym wide) moved')

-- the refusal of the set behind modes is that of the list
pub refused_next : (m : ModesContents) → AreModes m → (sets : List SetContents) (set : SetContents) (rest : List SetContents) →
    sets ≡ sets_of m.modes ++ set ∷ rest → m.processors ≡ processors_of sets
    → (f : ModeFault) → RefusesAs (length m.modes) (IsFirstOf m.processors (sets_of m.modes) set) f → SaysOf sets f
refused_next m are sets set rest split wide fault.NoMemory refuses = tt
refused_next m are sets set rest split wide (fault.Refused mode k) refuses =
    let front = sets_of m.modes in
    let all = sets_of m.modes ++ set ∷ rest in
    let n = length m.modes in
    let long : length front ≡ n = length-map m.modes (λ (x : Mode). x.plan.set) in
    let at : slice_get all n ≡ Some set = subst (λ j. slice_get all j ≡ Some set) long (get_seam front set rest) in
    let before : take n all ≡ front = subst (λ j. take j all ≡ front) long (take-append_seam front (set ∷ rest)) in
    let wide' : m.processors ≡ processors_of all = wide ∙ ap processors_of split in
    let there : IsFirstFlaw all n k = record {
      has = (set, at, subst (λ xs. Has (processors_of all) xs set k) (sym before) (subst (λ w. Has w front set k) wide' refuses.1.has));
      first = λ other there.
          let same : Some there.0 ≡ Some set = sym there.1 ∙ at in
          let same' : there.0 ≡ set = cc in
          refuses.1.first other (subst (λ w. Has w front set other) (sym wide')
          (subst (λ xs. Has (processors_of all) xs set other) before (subst (λ s. Has (processors_of all) (take n all) s other) same' there.2)));
      lowest = λ i other below there. front_is_good m.processors m.modes are.each are.few_rows (set ∷ rest) (sym wide') i other (omega (arith, below, long))
          there;
    } in
    subst (λ xs. IsFirstFlaw xs mode k) (sym split) (subst (λ j. IsFirstFlaw all j k) (sym refuses.0) there)

-- ---- what the steps of adding a mode give

pub mode_made : (m : ℕ) (set : SetContents) (p : PlanContents) (rounds start : ℕ) → CanJoin m set → IsPlan p → IsPlanOf set p → Fits p.tree.scale set →
    rounds ≡ rounds_of p → 1 ≤ rounds
    → IsMode m (record { plan = p; rounds = rounds; start = start })
mode_made m set p rounds start can lawful plan fits count some = record {
  can_join = subst (CanJoin m) (sym plan.set) can;
  lawful = lawful;
  plan = subst (λ s. IsPlanOf s p) (sym plan.set) plan;
  fits = subst (λ s. Fits p.tree.scale s) (sym plan.set) fits;
  rounds = count;
  some_rounds = some;
}

pub overload_next : (m : ℕ) (modes : List Mode) (set : SetContents) → CanJoin m set → (mode : ℕ) → mode ≡ length modes → (f : ModeFault)
    → RefusesAs mode (IsOverloadOf set) f → RefusesAs (length modes) (IsFirstOf m (sets_of modes) set) f
overload_next m modes set can mode is fault.NoMemory h = tt
overload_next m modes set can mode is (fault.Refused j kind.Processors) h = absurd h.1
overload_next m modes set can mode is (fault.Refused j (kind.Offset task)) h = absurd h.1
overload_next m modes set can mode is (fault.Refused j (kind.Period task)) h = absurd h.1
overload_next m modes set can mode is (fault.Refused j (kind.Overload total room)) h = (h.0 ∙ is, overload_first m (sets_of modes) set can total room h.1)
overload_next m modes set can mode is (fault.Refused j (kind.TooLong rows)) h = absurd h.1

plans_of : (m : ℕ) (modes : List Mode) → AllByRecursion (IsMode m) modes → AllZip IsPlanOf (sets_of modes) (map (λ (x : Mode). x.plan) modes)
plans_of m [] all = tt
plans_of m (mode ∷ modes) all = (all.0.plan, plans_of m modes all.1)

rows_of_plans : (modes : List Mode) → sum_by rows_of (map (λ (x : Mode). x.plan) modes) ≡ all_rows_of modes
rows_of_plans [] = refl
rows_of_plans (mode ∷ modes) =
    let rest = rows_of_plans modes in
    let sum = sum_by-cons (λ (x : Mode). rows_of x.plan) mode modes in
    let sum' = sum_by-cons rows_of mode.plan (map (λ (x : Mode). x.plan) modes) in
    omega (arith, rest, sum, sum')

pub too_long_next : (m : ℕ) (modes : List Mode) → AllByRecursion (IsMode m) modes → (set : SetContents) → CanJoin m set → (p : PlanContents) →
    IsPlanOf set p → Fits p.tree.scale set
    → (before mode : ℕ) → before ≡ all_rows_of modes → mode ≡ length modes → (f : ModeFault) → RefusesAs mode (IsTooLongAfter before p) f →
    RefusesAs (length modes) (IsFirstOf m (sets_of modes) set) f
too_long_next m modes all set can p plan fits before mode rows is fault.NoMemory h = tt
too_long_next m modes all set can p plan fits before mode rows is (fault.Refused j kind.Processors) h = absurd h.1
too_long_next m modes all set can p plan fits before mode rows is (fault.Refused j (kind.Offset task)) h = absurd h.1
too_long_next m modes all set can p plan fits before mode rows is (fault.Refused j (kind.Period task)) h = absurd h.1
too_long_next m modes all set can p plan fits before mode rows is (fault.Refused j (kind.Overload total room)) h = absurd h.1
too_long_next m modes all set can p plan fits before mode rows is (fault.Refused j (kind.TooLong r)) h =
    let plans = map (λ (x : Mode). x.plan) modes in
    let sum = rows_of_plans modes in
    let past = h.1.0 in
    let wide : p.set.processors ≡ m = ap (λ (s : SetContents). s.processors) plan.set ∙ can.same_processors in
    let least : r ≡ (row_limit / m + 1) * m = h.1.1 ∙ ap (λ w. (row_limit / w + 1) * w) wide in
    let over : row_limit < sum_by rows_of plans + rows_of p = omega (arith, past, sum, rows) in
    (h.0 ∙ is, too_long_first m (sets_of modes) set can p.tree.scale plan.scale fits r ((plans, p, plans_of m modes all, plan, over), least))

-- the end of all modes and one more horizon
pub small_end : (m : ModesContents) → AreModes m → units_of m.modes ≤ 2097152 * 2 ^ 32
small_end m are =
    let units = few_units m.processors m.modes are.each in
    let few = few_modes m.processors are.some_processors m.modes are.each in
    let rows = are.few_rows in
    omega (arith, units, few, rows)
