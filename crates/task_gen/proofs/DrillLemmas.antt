-- Sets that words draw.
use Rattle.std.proofs.Common.{◌≡◌, ℕ, zero, suc, ◌+◌, ◌/◌, ◌%◌, ◌*◌, ◌^◌, ◌<◌, ◌≤◌, Bool, true, false, List, [], ◌∷◌, ◌++◌, length, get_or, drop}
use Rattle.std.proofs.Common.{refl, sym, ◌∙◌, ap, subst, arith, length-append, div-add-mod', mod-lt, inl, inr}
use Rattle.std.specs.Int.{◌∣◌}
use Rattle.std.specs.Prelude.{nat_le}
use Rattle.std.proofs.lemmas.Bool.{cases_lt, leb-true, le-leb, lt-leb}
use Rattle.std.proofs.lemmas.List.{drop_more, drop_all}
use Rattle.std.proofs.lemmas.Nat.Gcd.{dvd_of_mod-eq-zero}
use Rattle.std.proofs.Math.Nat.{mul-div_assoc, mul-div_cancel', mul-le-mul_right, dvd-mod_iff}
use Rattle.std.proofs.lemmas.List.Sums.{sum_by-cons, sum_by_push}
use Rattle.std.specs.List.{AllByRecursion}
use Rattle.sched_base.specs.declared.sets.Task.{Task}
use Rattle.sched_base.specs.Sets.{SetContents, IsLawful, IsLawfulTask, IsFree}
use Rattle.sched_base.specs.Scale.{PeriodsDivide, IsScale, Fits, rate_of, total_of}
use Rattle.sched_base.proofs.SetLemmas.{AllByRecursion-push, IsLawful-push}
use Rattle.task_gen.specs.Drill.{period_by, name_of_number, task_by, with_fitting, drawn_onto}
use Rattle.task_gen.proofs.NameLemmas.{name_lawful, names_apart}

-- a period that a word may choose
pub record IsPeriod (period : ℕ) : Type 0 where
  pub some : 1 ≤ period
  pub small : period ≤ 30
  pub divides : period ∣ 60

AllByRecursion-at : (P : ℕ → Type 0) (xs : List ℕ) (k : ℕ) → k < length xs → AllByRecursion P xs → P (get_or xs k 0)
AllByRecursion-at P [] k within h = absurd (omega arith)
AllByRecursion-at P (x ∷ xs) zero within h = h.0
AllByRecursion-at P (x ∷ xs) (suc k) within h = AllByRecursion-at P xs k (omega arith) h.1

-- a number that divides 60 by computing
period_of_60 : (period : ℕ) → 1 ≤ period → period ≤ 30 → 60 % period ≡ 0 → IsPeriod period
period_of_60 period some small rest = record { some = some; small = small; divides = dvd_of_mod-eq-zero period rest }

-- the periods that a word chooses from
abbrev periods : List ℕ
periods = 4 ∷ 5 ∷ 6 ∷ 10 ∷ 12 ∷ 15 ∷ 20 ∷ 30 ∷ []

each_period : AllByRecursion (λ p. (1 ≤ p) × (p ≤ 30) × (60 % p ≡ 0)) periods
each_period = search (arith)

pub period_is : (w : ℕ) → IsPeriod (period_by w)
period_is w =
    let at = AllByRecursion-at (λ p. (1 ≤ p) × (p ≤ 30) × (60 % p ≡ 0)) periods (w % 8) (omega arith) each_period in
    period_of_60 (period_by w) at.0 at.1 at.2

-- the work and the period that a pair of words chooses
pub record AreChosen (work period : ℕ) : Type 0 where
  pub some_work : 1 ≤ work
  pub work_fits : work ≤ period
  pub some_period : 1 ≤ period
  pub small_period : period ≤ 30

pub are_chosen : (w v work period : ℕ) → work ≡ 1 + v % period → period ≡ period_by w → AreChosen work period
are_chosen w v work period work_is of_word =
    let p = subst IsPeriod (sym of_word) (period_is w) in
    let some = p.some in
    let rest : v % period < period = mod-lt v some in
    record { some_work = omega (arith, work_is); work_fits = omega (arith, work_is, rest); some_period = some; small_period = p.small }

-- a weight is at most that of a whole processor
pub light : (work period : ℕ) → AreChosen work period → work * 60 / period ≤ 60
light work period h = elim (cases_lt 60 (work * 60 / period)) [
  | inl past ↦
      (let more : 61 * period ≤ work * 60 / period * period = mul-le-mul_right period past in
      let parts = div-add-mod' (work * 60) period in
      let fits = h.work_fits in
      let some = h.some_period in
      absurd (omega (arith, more, parts, fits, some)))
  | inr within ↦ within
]

-- the set of drawn tasks
abbrev pub set_of : List Task → SetContents
set_of tasks = record { processors = 4; horizon = 6000; tasks = tasks }

-- what each list of drawn tasks keeps
pub record IsDrawn (tasks : List Task) : Type 0 where
  pub lawful : IsLawful (set_of tasks)
  pub divide : PeriodsDivide tasks 60
  pub numbered : AllByRecursion (λ t. (k : ℕ) × (k < length tasks) × (t.name ≡ name_of_number k)) tasks
  pub within : total_of 60 tasks ≤ 240
  pub counted : length tasks ≤ total_of 60 tasks

pub IsDrawn-none : IsDrawn []
IsDrawn-none = record {
  lawful = record {
    some_processors = omega arith;
    few_processors = omega arith;
    some_horizon = omega arith;
    horizon_fits = omega arith;
    few_tasks =
        omega arith;
    each = tt;
    names_differ = tt;
  };
  divide = tt;
  numbered = tt;
  within = omega arith;
  counted = omega arith;
}

-- it holds of each task, and the other follows
AllByRecursion-by : (P Q : Task → Type 0) (tasks : List Task) → ((t : Task) → P t → Q t) → AllByRecursion P tasks → AllByRecursion Q tasks
AllByRecursion-by P Q [] by h = tt
AllByRecursion-by P Q (t ∷ tasks) by h = (by t h.0, AllByRecursion-by P Q tasks by h.1)

-- there is room for one task more
pub room_for : (tasks : List Task) → IsDrawn tasks → length tasks < 256
room_for tasks h = let w = h.within in let c = h.counted in omega arith

-- the next name is free
pub next_is_free : (tasks : List Task) → IsDrawn tasks → IsFree (name_of_number (length tasks)) tasks
next_is_free tasks h =
    let few = room_for tasks h in
    AllByRecursion-by _ _ tasks (λ t named same. names_apart named.0 (length tasks) (omega (arith, named.1)) (omega arith) (omega (arith, named.1))
    (sym named.2 ∙ same)) h.numbered

-- a work that a word chooses is within its period
pub work_within : (v period : ℕ) → 1 ≤ period → 1 + v % period ≤ period
work_within v period some = omega arith

pub task_lawful : (k w v : ℕ) → k < 2 ^ 64 → IsLawfulTask (task_by k w v)
task_lawful k w v fits =
    let p = period_is w in
    let some = p.some in
    let small = p.small in
    record {
      name = name_lawful k fits;
      some_work = omega arith;
      work_fits = work_within v (period_by w) some;
      period_fits = omega arith;
      offset_fits =
          omega arith;
    }

-- what goes into a number goes into it at least once
quotient : (q r period n : ℕ) → period * q + r ≡ n → r < period → period ≤ n → 1 ≤ q
quotient zero r period n is less within = absurd (omega arith)
quotient (suc q) r period n is less within = omega arith

-- each task has some weight
some_weight : (work period : ℕ) → 1 ≤ work → 1 ≤ period → period ≤ 60 → 1 ≤ work * 60 / period
some_weight work period some_work some_period small = quotient (work * 60 / period) (work * 60 % period) period (work * 60) (omega arith) (omega arith)
    (omega arith)

-- one task more
IsDrawn-push : (tasks : List Task) (w v : ℕ) → IsDrawn tasks → total_of 60 tasks + rate_of 60 (task_by (length tasks) w v) ≤ 240 →
    IsDrawn (tasks ++ task_by (length tasks) w v ∷ [])
IsDrawn-push tasks w v h fits =
    let t = task_by (length tasks) w v in
    let few = room_for tasks h in
    let p = period_is w in
    let p_some = p.some in
    let p_small = p.small in
    let count : length (tasks ++ t ∷ []) ≡ length tasks + 1 = length-append tasks (t ∷ []) in
    let sum : total_of 60 (tasks ++ t ∷ []) ≡ total_of 60 tasks + rate_of 60 t = sum_by_push (rate_of 60) tasks t in
    let some : 1 ≤ rate_of 60 t = some_weight t.work t.period (omega arith) p_some (omega arith) in
    let counted = h.counted in
    record {
      lawful = IsLawful-push (set_of tasks) t h.lawful few (task_lawful (length tasks) w v (omega arith)) (next_is_free tasks h);
      divide = AllByRecursion-push _ tasks t h.divide p.divides;
      numbered = AllByRecursion-push _ tasks t (AllByRecursion-by _ _ tasks (λ s named. (named.0, omega (arith, named.1), named.2)) h.numbered)
          (length tasks, omega arith, refl);
      within = omega arith;
      counted = omega arith;
    }

-- by whether it fits
either : (tasks : List Task) (w v : ℕ) (fits : Bool) → nat_le (total_of 60 tasks + rate_of 60 (task_by (length tasks) w v)) 240 ≡ fits → IsDrawn tasks
    → IsDrawn (elim fits as (λ b. List Task) [ true ↦ tasks ++ task_by (length tasks) w v ∷ [] | false ↦ tasks ])
either tasks w v true fits h = IsDrawn-push tasks w v h (leb-true _ _ fits)
either tasks w v false fits h = h

-- one task more, where it fits
pub IsDrawn-more : (tasks : List Task) (w v : ℕ) → IsDrawn tasks → IsDrawn (with_fitting tasks (task_by (length tasks) w v))
IsDrawn-more tasks w v h = either tasks w v (nat_le (total_of 60 tasks + rate_of 60 (task_by (length tasks) w v)) 240) refl h

pub IsDrawn-onto : (tasks : List Task) (words : List ℕ) → IsDrawn tasks → IsDrawn (drawn_onto tasks words)
IsDrawn-onto tasks [] h = h
IsDrawn-onto tasks (w ∷ []) h = h
IsDrawn-onto tasks (w ∷ v ∷ words) h = IsDrawn-onto (with_fitting tasks (task_by (length tasks) w v)) words (IsDrawn-more tasks w v h)

-- a rate at one scale, by the rate at another
rate_scaled : (t : Task) (a b : ℕ) → t.period ∣ a → t.period ∣ b → rate_of a t * b ≡ rate_of b t * a
rate_scaled t a b by_a by_b =
    let at_a : rate_of a t ≡ t.work * (a / t.period) = mul-div_assoc t.period t.work by_a in
    let at_b : rate_of b t ≡ t.work * (b / t.period) = mul-div_assoc t.period t.work by_b in
    let a_is : t.period * (a / t.period) ≡ a = mul-div_cancel' t.period by_a in
    let b_is : t.period * (b / t.period) ≡ b = mul-div_cancel' t.period by_b in
    ap (λ n. n * b) at_a ∙ ap (λ n. t.work * (a / t.period) * n) (sym b_is) ∙ regroup t.work (a / t.period) t.period (b / t.period)
    ∙ ap (λ n. t.work * (b / t.period) * n) a_is ∙ ap (λ n. n * a) (sym at_b)
  where
    regroup : (w x p y : ℕ) → w * x * (p * y) ≡ w * y * (p * x)
    regroup w x p y = omega arith

-- the sum of the rates at one scale, by the sum at another
total_scaled : (tasks : List Task) (a b : ℕ) → PeriodsDivide tasks a → PeriodsDivide tasks b → total_of a tasks * b ≡ total_of b tasks * a
total_scaled [] a b by_a by_b = omega arith
total_scaled (t ∷ tasks) a b by_a by_b =
    let rest = total_scaled tasks a b by_a.1 by_b.1 in
    let left = sum_by-cons (rate_of a) t tasks in
    let right = sum_by-cons (rate_of b) t tasks in
    let first = rate_scaled t a b by_a.0 by_b.0 in
    omega (arith, ap (λ n. n * b) left, ap (λ n. n * a) right)

-- the set fits at its scale
pub fits_at : (tasks : List Task) (scale : ℕ) → IsDrawn tasks → IsScale tasks scale → Fits scale (set_of tasks)
fits_at tasks scale h is =
    let same : total_of scale tasks * 60 ≡ total_of 60 tasks * scale = total_scaled tasks scale 60 is.divided h.divide in
    let within : total_of 60 tasks * scale ≤ 240 * scale = mul-le-mul_right scale h.within in
    omega arith

-- periods that divide two numbers divide what is left when the one is divided by the other
PeriodsDivide-mod : (tasks : List Task) (m n : ℕ) → PeriodsDivide tasks m → PeriodsDivide tasks n → PeriodsDivide tasks (m % n)
PeriodsDivide-mod [] m n by_m by_n = tt
PeriodsDivide-mod (t ∷ tasks) m n by_m by_n = ((dvd-mod_iff t.period {m = m} {n = n} by_n.0).1 by_m.0, PeriodsDivide-mod tasks m n by_m.1 by_n.1)

-- nothing is left of 60, or it would be a lesser scale
by_rest : (tasks : List Task) (scale : ℕ) → IsScale tasks scale → (rest : ℕ) → 60 % scale ≡ rest → PeriodsDivide tasks (60 % scale) → scale ∣ 60
by_rest tasks scale is zero e divide = dvd_of_mod-eq-zero scale e
by_rest tasks scale is (suc rest) e divide =
    let positive = is.positive in
    absurd (let lesser : scale ≤ 60 % scale = is.least (60 % scale) (omega arith) divide in omega arith)

-- the scale divides 60
pub scale_divides : (tasks : List Task) (scale : ℕ) → IsDrawn tasks → IsScale tasks scale → scale ∣ 60
scale_divides tasks scale h is = by_rest tasks scale is (60 % scale) refl (PeriodsDivide-mod tasks 60 scale h.divide is.divided)

-- the scale is at most 60
pub scale_small : (tasks : List Task) (scale : ℕ) → IsDrawn tasks → IsScale tasks scale → scale ≤ 60
scale_small tasks scale h is = is.least 60 (omega arith) h.divide

-- the first j pairs of words have drawn this set, whose tasks weigh this much together
pub record HasDrawn (words : List ℕ) (j : ℕ) (set : SetContents) (load : ℕ) : Type 0 where
  pub processors : set.processors ≡ 4
  pub horizon : set.horizon ≡ 6000
  pub drawn : IsDrawn set.tasks
  pub weight : load ≡ total_of 60 set.tasks
  pub rest : drawn_onto set.tasks (drop (2 * j) words) ≡ drawn_onto [] words

-- the task that pair j of the words chooses for these tasks
abbrev pub task_at_pair : List ℕ → ℕ → List Task → Task
task_at_pair words j tasks = task_by (length tasks) (get_or words (2 * j) 0) (get_or words (2 * j + 1) 0)

-- the next pair chooses one task more
drawn_next : (words : List ℕ) (j : ℕ) (tasks : List Task) → 2 * j + 1 < length words →
    drawn_onto tasks (drop (2 * j) words) ≡ drawn_onto (with_fitting tasks (task_at_pair words j tasks)) (drop (2 * (j + 1)) words)
drawn_next words j tasks within =
    let first : drop (2 * j) words ≡ get_or words (2 * j) 0 ∷ drop (2 * j + 1) words = drop_more words (2 * j) 0 (omega arith) in
    let second : drop (2 * j + 1) words ≡ get_or words (2 * j + 1) 0 ∷ drop (2 * j + 1 + 1) words = drop_more words (2 * j + 1) 0 within in
    let past : 2 * j + 1 + 1 ≡ 2 * (j + 1) = omega arith in
    ap (λ ws. drawn_onto tasks ws) (first ∙ ap (λ ws. get_or words (2 * j) 0 ∷ ws) second)
    ∙ ap (λ n. drawn_onto (with_fitting tasks (task_at_pair words j tasks)) (drop n words)) past

-- a task that fits is added, one that doesn't is left out
added_if : (tasks : List Task) (t : Task) → total_of 60 tasks + rate_of 60 t ≤ 240 → with_fitting tasks t ≡ tasks ++ t ∷ []
added_if tasks t fits = rw (le-leb (total_of 60 tasks + rate_of 60 t) 240 fits, with_fitting) refl

left_if : (tasks : List Task) (t : Task) → 240 < total_of 60 tasks + rate_of 60 t → with_fitting tasks t ≡ tasks
left_if tasks t past = rw (lt-leb (total_of 60 tasks + rate_of 60 t) 240 past, with_fitting) refl

pub HasDrawn-none : (words : List ℕ) (set : SetContents) → set.processors ≡ 4 → set.horizon ≡ 6000 → set.tasks ≡ [] → HasDrawn words 0 set 0
HasDrawn-none words set processors horizon none = record {
  processors = processors;
  horizon = horizon;
  drawn = rw none IsDrawn-none;
  weight = rw none refl;
  rest = rw none refl;
}

pub HasDrawn-added : (words : List ℕ) (j : ℕ) (set : SetContents) (load : ℕ) (t : Task) → 2 * j + 1 < length words → HasDrawn words j set load →
    t ≡ task_at_pair words j set.tasks
    → load + t.work * 60 / t.period ≤ 240 → HasDrawn words (j + 1) (record set { tasks = set.tasks ++ t ∷ [] }) (load + t.work * 60 / t.period)
HasDrawn-added words j set load t within h is fits =
    let weight = h.weight in
    let added : with_fitting set.tasks t ≡ set.tasks ++ t ∷ [] = added_if set.tasks t (omega arith) in
    record {
      processors = h.processors;
      horizon = h.horizon;
      drawn = subst IsDrawn (ap (λ s. with_fitting set.tasks s) (sym is) ∙ added) (IsDrawn-more set.tasks _ _ h.drawn);
      weight = omega (arith, sum_by_push (rate_of 60) set.tasks t);
      rest = ap (λ tasks. drawn_onto tasks (drop (2 * (j + 1)) words)) (sym added ∙ ap (λ s. with_fitting set.tasks s) is)
          ∙ sym (drawn_next words j set.tasks within) ∙ h.rest;
    }

pub HasDrawn-left : (words : List ℕ) (j : ℕ) (set : SetContents) (load : ℕ) (t : Task) → 2 * j + 1 < length words → HasDrawn words j set load →
    t ≡ task_at_pair words j set.tasks
    → 240 < load + t.work * 60 / t.period → HasDrawn words (j + 1) set load
HasDrawn-left words j set load t within h is past =
    let weight = h.weight in
    let left : with_fitting set.tasks t ≡ set.tasks = left_if set.tasks t (omega arith) in
    record {
      processors = h.processors;
      horizon = h.horizon;
      drawn = h.drawn;
      weight = weight;
      rest = ap (λ tasks. drawn_onto tasks (drop (2 * (j + 1)) words)) (sym left ∙ ap (λ s. with_fitting set.tasks s) is)
          ∙ sym (drawn_next words j set.tasks within) ∙ h.rest;
    }

-- all pairs have drawn the set
pub HasDrawn-all : (words : List ℕ) (j : ℕ) (set : SetContents) (load : ℕ) → length words ≤ 2 * j → HasDrawn words j set load →
    set ≡ set_of (drawn_onto [] words)
HasDrawn-all words j set load all h =
    let tasks : set.tasks ≡ drawn_onto [] words = sym (ap (λ ws. drawn_onto set.tasks ws) (drop_all (2 * j) words all)) ∙ h.rest in
    ap (λ n. record { processors = n; horizon = set.horizon; tasks = set.tasks }) h.processors
    ∙ ap (λ n. record { processors = 4; horizon = n; tasks = set.tasks }) h.horizon
    ∙ ap set_of tasks

-- a task of these parts is the one that the pair chooses
pub same_task : (words : List ℕ) (j : ℕ) (tasks : List Task) (name : List ℕ) (work period : ℕ) → name ≡ name_of_number (length tasks)
    → work ≡ 1 + get_or words (2 * j + 1) 0 % period → period ≡ period_by (get_or words (2 * j) 0) →
    record { name = name; work = work; period = period; offset = 0 } ≡ task_at_pair words j tasks
same_task words j tasks name work period name_is work_is period_is =
    ap (λ n. record { name = n; work = work; period = period; offset = 0 }) name_is
    ∙ ap (λ n. record { name = name_of_number (length tasks); work = n; period = period; offset = 0 }) work_is
    ∙ ap (λ n. record { name = name_of_number (length tasks); work = 1 + get_or words (2 * j + 1) 0 % n; period = n; offset = 0 }) period_is
