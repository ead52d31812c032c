-- What modes do to the gates and to the jobs, one after the other.
use Rattle.std.proofs.Common.{◌≡◌, ℕ, zero, suc, ◌+◌, ◌*◌, ◌≤◌, inl, inr, List, [], ◌∷◌, ◌++◌, Option, Some, None, Result, Ok, Err, IfOk, IfErr}
use Rattle.std.proofs.Common.{length, take, option_map}
use Rattle.std.proofs.Common.{refl, sym, ap, ◌∙◌, subst, arith, append_assoc, take_all, add-one}
use Rattle.std.specs.Prelude.{slice_get}
use Rattle.std.specs.List.{AllByRecursion, AllZip}
use Rattle.std.specs.Result.{IsErrAnd}
use Rattle.std.proofs.lemmas.List.Sums.{sum_by-cons}
use Rattle.sched_base.specs.Tables.{lane_of, row_limit}
use Rattle.sched_edges.specs.declared.gates.Gate.{Ghosts as GateTells}
use Rattle.sched_edges.specs.declared.jobs.Job.{Ghosts as JobTells}
use Rattle.sched_edges.specs.Gates.{grown}
use Rattle.run_tree.specs.Plans.{PlanContents, rounds_of}
use Rattle.plan_rounds.specs.PlanRows.{IsCompiled, plan_rows}
use Rattle.exec_lanes.specs.declared.answers.Executed.{Executed}
use Rattle.exec_lanes.specs.declared.answers.ExecFault.{ExecFault}
use Rattle.exec_lanes.specs.declared.answers.ExecFault.TheVariants as exec
use Rattle.exec_lanes.specs.Kits.{AreFilled}
use Rattle.exec_lanes.proofs.ServeLemmas.{grown-grown, grown-nil}
use Rattle.mode_join.specs.declared.mode.Mode.{Mode}
use Rattle.mode_switch.specs.declared.answers.ModesFault.{ModesFault}
use Rattle.mode_switch.specs.declared.answers.ModesFault.TheVariants as fault
use Rattle.mode_join.specs.Joining.{rows_of}
use Rattle.mode_join.specs.Modes.{ModesContents, AreModes, IsMode}
use Rattle.mode_join.proofs.ModeLemmas.{all_rows_of}
use Rattle.mode_switch.specs.Runs.{CrewHeld, HaveOwnJobs, RanMode, RanModes, StopsIn, ModesOutcome, GatesGrewThrough, GatesGrewFirst, IsRunOf, JobsUsedLast}
use Rattle.mode_switch.specs.Runs.{AreBack, NamesRisen, fault_in, rows_through, used_after}
use Rattle.mode_switch.proofs.CrewHeldLemmas.{back_same, back_on, back_mode, mode_gates, mode_jobs, mode_run, mode_first, gate_risen, job_risen, risen_later}

-- ---- lists

-- first elements of a list are first ones of a longer list
take_front : {X : Type 0} (xs ys : List X) (k : ℕ) → (n : ℕ) × (take k xs ≡ take n (xs ++ ys))
take_front xs ys zero = (0, refl)
take_front [] ys (suc k) = (0, refl)
take_front (x ∷ xs) ys (suc k) =
    let (n, same) = take_front xs ys k in
    (suc n, ap (λ zs. x ∷ zs) same)

-- and so are those behind a list
take_behind : {X : Type 0} (xs ys : List X) (k : ℕ) → (n : ℕ) × (xs ++ take k ys ≡ take n (xs ++ ys))
take_behind [] ys k = (k, refl)
take_behind (x ∷ xs) ys k =
    let (n, same) = take_behind xs ys k in
    (suc n, ap (λ zs. x ∷ zs) same)

pub all_get : {X : Type 0} (P : X → Type 0) (xs : List X) (i : ℕ) (x : X) → AllByRecursion P xs → slice_get xs i ≡ Some x → P x
all_get P [] i x all at = absurd (let bad : None ≡ Some x = at in cc)
all_get P (y ∷ xs) zero x all at = let same : Some y ≡ Some x = at in let same' : y ≡ x = cc in subst P same' all.0
all_get P (y ∷ xs) (suc i) x all at = all_get P xs i x all.1 at

all_take : {X : Type 0} (P : X → Type 0) (xs : List X) (n : ℕ) → AllByRecursion P xs → AllByRecursion P (take n xs)
all_take P xs zero all = tt
all_take P [] (suc n) all = tt
all_take P (x ∷ xs) (suc n) all = (all.0, all_take P xs n all.1)

-- the first elements and the next one
pub take_one_more : {X : Type 0} (xs : List X) (i : ℕ) (x : X) → slice_get xs i ≡ Some x → take (suc i) xs ≡ take i xs ++ x ∷ []
take_one_more [] i x at = absurd (let bad : None ≡ Some x = at in cc)
take_one_more (y ∷ xs) zero x at = let same : Some y ≡ Some x = at in let same' : y ≡ x = cc in ap (λ z. z ∷ []) same'
take_one_more (y ∷ xs) (suc i) x at = ap (λ zs. y ∷ zs) (take_one_more xs i x at)

-- ---- rows of modes

-- behind whole modes, first rows of the next one are first rows of all
first_rows_of : (modes : List Mode) (j : ℕ) (m : Mode) (q k : ℕ) → slice_get modes j ≡ Some m
    → (n : ℕ) × (rows_through (take j modes) q ++ take k (lane_of (plan_rows m.plan) q) ≡ take n (rows_through modes q))
first_rows_of [] j m q k at = absurd (let bad : ◌≡◌ {A = Option Mode} None (Some m) = at in cc)
first_rows_of (x ∷ modes) zero m q k at =
    let same : Some x ≡ Some m = at in
    let same' : x ≡ m = cc in
    let (n, front) = take_front (lane_of (plan_rows x.plan) q) (rows_through modes q) k in
    (n, ap (λ (y : Mode). take k (lane_of (plan_rows y.plan) q)) (sym same') ∙ front)
first_rows_of (x ∷ modes) (suc j) m q k at =
    let lane = lane_of (plan_rows x.plan) q in
    let (n, rest) = first_rows_of modes j m q k at in
    let (more, whole) = take_behind lane (rows_through modes q) n in
    (more, append_assoc lane (rows_through (take j modes) q) (take k (lane_of (plan_rows m.plan) q)) ∙ ap (λ zs. lane ++ zs) rest ∙ whole)

pub wide_as : (m : ℕ) (mode : Mode) → IsMode m mode → mode.plan.tree.processors ≡ m
wide_as m mode is = is.lawful.tree.processors ∙ is.can_join.same_processors

module _ {G J : Type 0} (gate : GateTells G) (job : JobTells J) where
  -- kits that were filled are filled again, and jobs are in their own places
  pub filled_after : (n : ℕ) (old new : CrewHeld G J) → AreBack gate job old new → AreFilled n old.kits → AreFilled n new.kits
  filled_after n old new back filled q within =
      let (g, at) = filled q within in
      let (now, there, later) = back.gates q g at in
      (now, there)

  pub own_after : (n : ℕ) (old new : CrewHeld G J) → AreBack gate job old new → HaveOwnJobs job.id n old.places → HaveOwnJobs job.id n new.places
  own_after n old new back own t within =
      let (j, at, is) = own t within in
      let (now, there, same, later) = back.jobs t j at in
      (now, there, same ∙ is)

module _ {G J : Type 0} (gate : GateTells G) (job : JobTells J) (window : ℕ) where
  -- one mode more
  pub ran_next : (modes : List Mode) (runs : List Executed) (m : Mode) (e : Executed) (old between new : CrewHeld G J)
      → RanModes gate job modes window runs old between → RanMode gate job m.plan window (Ok e) between new
      → RanModes gate job (modes ++ m ∷ []) window (runs ++ e ∷ []) old new
  ran_next [] [] m e old between new ran run = (new, subst (λ (r : CrewHeld G J). RanMode gate job m.plan window (Ok e) r new) ran run, refl)
  ran_next [] (x ∷ runs) m e old between new ran run = absurd ran
  ran_next (x ∷ modes) [] m e old between new ran run = absurd ran
  ran_next (x ∷ modes) (y ∷ runs) m e old between new ran run = (ran.0, ran.1, ran_next modes runs m e ran.0 between new ran.2 run)

  -- as many answers as modes
  pub as_many : (modes : List Mode) (runs : List Executed) (old new : CrewHeld G J) → RanModes gate job modes window runs old new → length runs ≡ length modes
  as_many [] [] old new ran = refl
  as_many [] (e ∷ runs) old new ran = absurd ran
  as_many (m ∷ modes) [] old new ran = absurd ran
  as_many (m ∷ modes) (e ∷ runs) old new ran = ap suc (as_many modes runs ran.0 new ran.2)

  pub modes_back : (modes : List Mode) (runs : List Executed) (old new : CrewHeld G J) → RanModes gate job modes window runs old new → AreBack gate job old new
  modes_back [] [] old new ran = subst (λ (r : CrewHeld G J). AreBack gate job old r) (sym ran) (back_same gate job old)
  modes_back [] (e ∷ runs) old new ran = absurd ran
  modes_back (m ∷ modes) [] old new ran = absurd ran
  modes_back (m ∷ modes) (e ∷ runs) old new ran =
      back_on gate job old ran.0 new (back_mode gate job m.plan window (Ok e) old ran.0 ran.1) (modes_back modes runs ran.0 new ran.2)

  pub grew_through : (m : ℕ) (modes : List Mode) → AllByRecursion (IsMode m) modes → (runs : List Executed) (old new : CrewHeld G J) →
      RanModes gate job modes window runs old new
      → GatesGrewThrough gate.ran m modes old.kits new.kits
  grew_through m [] all [] old new ran q g within at = (g, ap (λ (r : CrewHeld G J). slice_get r.kits q) ran ∙ at, sym (grown-nil (gate.ran g)))
  grew_through m [] all (e ∷ runs) old new ran q g within at = absurd ran
  grew_through m (mode ∷ modes) all [] old new ran q g within at = absurd ran
  grew_through m (mode ∷ modes) all (e ∷ runs) old new ran q g within at =
      let wide = wide_as m mode all.0 in
      let (h, here, first) = mode_gates gate job mode.plan window all.0.lawful e old ran.0 ran.1 q g (omega (arith, wide, within)) at in
      let (now, there, more) = grew_through m modes all.1 runs ran.0 new ran.2 q h within here in (
        now,
        there,
        more ∙ ap (λ o. grown o (rows_through modes q)) first ∙ grown-grown (gate.ran g) (lane_of (plan_rows mode.plan) q) (rows_through modes q),
      )

  pub runs_whole : (modes : List Mode) (runs : List Executed) (old new : CrewHeld G J) → RanModes gate job modes window runs old new → AllZip IsRunOf modes runs
  runs_whole [] [] old new ran = tt
  runs_whole [] (e ∷ runs) old new ran = absurd ran
  runs_whole (m ∷ modes) [] old new ran = absurd ran
  runs_whole (m ∷ modes) (e ∷ runs) old new ran = (mode_run gate job m window e old ran.0 ran.1, runs_whole modes runs ran.0 new ran.2)

  pub jobs_last : (m : ℕ) (modes : List Mode) → AllByRecursion (IsMode m) modes → (runs : List Executed) (old new : CrewHeld G J)
      → RanModes gate job modes window runs old new → JobsUsedLast job modes old.places new.places
  jobs_last m [] all [] old new ran i j at = (j, ap (λ (r : CrewHeld G J). slice_get r.places i) ran ∙ at, refl, refl)
  jobs_last m [] all (e ∷ runs) old new ran i j at = absurd ran
  jobs_last m (mode ∷ modes) all [] old new ran i j at = absurd ran
  jobs_last m (mode ∷ modes) all (e ∷ runs) old new ran i j at =
      let (k, here, own, worked) = mode_jobs gate job mode.plan window all.0.lawful e old ran.0 ran.1 i j at in
      let (now, there, own', worked') = jobs_last m modes all.1 runs ran.0 new ran.2 i k here in
      (now, there, own' ∙ own, worked' ∙ ap (used_after modes i) worked)

  -- ---- whatever is answered

  stopped_first : (m : ℕ) (modes : List Mode) → AllByRecursion (IsMode m) modes → (j : ℕ) (why : ExecFault) (old new : CrewHeld G J) →
      StopsIn gate job modes window j why old new
      → GatesGrewFirst gate.ran m modes old.kits new.kits
  stopped_first m modes all j why old new stops q g within at =
      let mode = stops.mode in
      let lane = lane_of (plan_rows mode.plan) q in
      let (h, here, grew) = grew_through m (take j modes) (all_take (IsMode m) modes j all) stops.runs old stops.between stops.whole q g within at in
      let wide = wide_as m mode (all_get (IsMode m) modes j mode all stops.at) in
      let (now, there, (k, first)) = mode_first gate job mode.plan window (Err why) stops.between new stops.stopped q h (omega (arith, wide, within)) here in
      let (n, front) = first_rows_of modes j mode q k stops.at in (
        now,
        there,
        (
          n,
          first ∙ ap (λ o. grown o (take k lane)) grew ∙ grown-grown (gate.ran g) (rows_through (take j modes) q) (take k lane) ∙ ap (grown (gate.ran g))
              front,
        ),
      )

  -- each gate ran first rows of all
  pub ran_first : (m : ℕ) (modes : List Mode) → AllByRecursion (IsMode m) modes → (old new : CrewHeld G J) (answer : Result (List Executed) ModesFault)
      → ModesOutcome gate job modes window old new answer → GatesGrewFirst gate.ran m modes old.kits new.kits
  ran_first m modes all old new (Ok runs) o q g within at =
      let (now, there, grew) = grew_through m modes all runs old new o q g within at in
      let rows = rows_through modes q in
      (now, there, (length rows, grew ∙ ap (grown (gate.ran g)) (sym (take_all (length rows) rows (omega arith)))))
  ran_first m modes all old new (Err (fault.Gate j x r)) o q g within at = stopped_first m modes all j (exec.Gate x r o.0) old new o.1 q g within at
  ran_first m modes all old new (Err (fault.Job j t x r)) o q g within at = stopped_first m modes all j (exec.Job t x r o.0) old new o.1 q g within at
  ran_first m modes all old new (Err fault.NoMemory) (inl same) q g within at =
      (g, ap (λ (r : CrewHeld G J). slice_get r.kits q) same ∙ at, (0, sym (grown-nil (gate.ran g))))
  ran_first m modes all old new (Err fault.NoMemory) (inr (j, stops)) q g within at = stopped_first m modes all j exec.NoMemory old new stops q g within at

  stopped_back : (modes : List Mode) (j : ℕ) (why : ExecFault) (old new : CrewHeld G J) → StopsIn gate job modes window j why old new → AreBack gate job old new
  stopped_back modes j why old new stops =
      back_on gate job old stops.between new (modes_back (take j modes) stops.runs old stops.between stops.whole)
      (back_mode gate job stops.mode.plan window (Err why) stops.between new stops.stopped)

  -- all are back
  pub are_back : (modes : List Mode) (old new : CrewHeld G J) (answer : Result (List Executed) ModesFault) → ModesOutcome gate job modes window old new answer →
      AreBack gate job old new
  are_back modes old new (Ok runs) o = modes_back modes runs old new o
  are_back modes old new (Err (fault.Gate j x r)) o = stopped_back modes j (exec.Gate x r o.0) old new o.1
  are_back modes old new (Err (fault.Job j t x r)) o = stopped_back modes j (exec.Job t x r o.0) old new o.1
  are_back modes old new (Err fault.NoMemory) (inl same) = subst (λ (r : CrewHeld G J). AreBack gate job old r) (sym same) (back_same gate job old)
  are_back modes old new (Err fault.NoMemory) (inr (j, stops)) = stopped_back modes j exec.NoMemory old new stops

  -- the gate or the job that is named failed
  pub names_risen : (m : ℕ) (modes : List Mode) → AllByRecursion (IsMode m) modes → (old new : CrewHeld G J) → AreFilled m old.kits → (f : ModesFault)
      → ModesOutcome gate job modes window old new (Err f) → NamesRisen gate job old new f
  names_risen m modes all old new filled (fault.Gate j q r) (n, stops) = λ g now at there.
      let before = modes_back (take j modes) stops.runs old stops.between stops.whole in
      let (b, here, later) = before.gates q g at in
      risen_later (gate.faults g) (gate.faults b) (gate.faults now) later
      (gate_risen gate job stops.mode.plan window q r n stops.between new stops.stopped b now here there)
  names_risen m modes all old new filled (fault.Job j t q r) (n, stops) = λ k now at there.
      let before = modes_back (take j modes) stops.runs old stops.between stops.whole in
      let (b, here, own, later) = before.jobs t k at in
      let is = all_get (IsMode m) modes j stops.mode all stops.at in
      let wide = wide_as m stops.mode is in
      let kits = subst (λ n. AreFilled n stops.between.kits) (sym wide) (filled_after gate job m old stops.between before filled) in
      risen_later (job.faults k) (job.faults b) (job.faults now) later
      (job_risen gate job stops.mode.plan window is.lawful t q r n stops.between new kits stops.stopped b now here there)
  names_risen m modes all old new filled fault.NoMemory o = tt

  -- a mode that stopped behind whole modes
  pub stops_at : (modes : List Mode) (j : ℕ) (m : Mode) (runs : List Executed) (why : ExecFault) (old between new : CrewHeld G J) → slice_get modes j ≡ Some m
      → RanModes gate job (take j modes) window runs old between → RanMode gate job m.plan window (Err why) between new
      → ModesOutcome gate job modes window old new (Err (fault_in j why))
  stops_at modes j m runs (exec.Gate q r n) old between new at ran run =
      (n, record { mode = m; at = at; runs = runs; between = between; whole = ran; stopped = run })
  stops_at modes j m runs (exec.Job t q r n) old between new at ran run =
      (n, record { mode = m; at = at; runs = runs; between = between; whole = ran; stopped = run })
  stops_at modes j m runs exec.NoMemory old between new at ran run =
      inr (j, record { mode = m; at = at; runs = runs; between = between; whole = ran; stopped = run })

-- ---- the next mode

-- what a run of mode j is asked for
pub record IsNext (m : ModesContents) (j : ℕ) (p : PlanContents) (rounds : ℕ) : Type 0 where
  pub mode : Mode
  pub at : slice_get m.modes j ≡ Some mode
  pub is : IsMode m.processors mode
  pub plan : mode.plan ≡ p
  pub compiled : IsCompiled p
  pub count : rounds ≡ rounds_of p
  pub few : rounds * p.tree.processors ≤ row_limit
  pub wide : p.tree.processors ≡ m.processors

rows_at : (modes : List Mode) (j : ℕ) (mode : Mode) → slice_get modes j ≡ Some mode → rows_of mode.plan ≤ all_rows_of modes
rows_at [] j mode at = absurd (let bad : ◌≡◌ {A = Option Mode} None (Some mode) = at in cc)
rows_at (x ∷ modes) zero mode at =
    let same : Some x ≡ Some mode = at in
    let same' : x ≡ mode = cc in
    let rows = ap (λ (y : Mode). rows_of y.plan) same' in
    let sum = sum_by-cons (λ (y : Mode). rows_of y.plan) x modes in
    omega (arith, rows, sum)
rows_at (x ∷ modes) (suc j) mode at =
    let rest = rows_at modes j mode at in
    let sum = sum_by-cons (λ (y : Mode). rows_of y.plan) x modes in
    omega (arith, rest, sum)

held : (o : Option Mode) (p : PlanContents) (n : ℕ) → option_map (λ (x : Mode). x.plan) o ≡ Some p → option_map (λ (x : Mode). x.rounds) o ≡ Some n
    → (x : Mode) × (o ≡ Some x) × (x.plan ≡ p) × (x.rounds ≡ n)
held None p n a b = absurd (let bad : ◌≡◌ {A = Option PlanContents} None (Some p) = a in cc)
held (Some x) p n a b =
    let plan : Some x.plan ≡ Some p = a in
    let rounds : Some x.rounds ≡ Some n = b in
    (x, refl, (cc), (cc))

pub next_mode : (m : ModesContents) → AreModes m → (j : ℕ) (p : PlanContents) (n : ℕ) → option_map (λ (x : Mode). x.plan) (slice_get m.modes j) ≡ Some p
    → option_map (λ (x : Mode). x.rounds) (slice_get m.modes j) ≡ Some n → IsNext m j p n
next_mode m are j p n a b =
    let (x, at, plan, rounds) = held (slice_get m.modes j) p n a b in
    let is = all_get (IsMode m.processors) m.modes j x are.each at in
    let count : n ≡ rounds_of x.plan = sym rounds ∙ is.rounds in
    let tree : x.plan.tree.processors ≡ x.plan.set.processors = is.lawful.tree.processors in
    let product : n * x.plan.tree.processors ≡ rows_of x.plan = (λ i. count i * tree i) in
    let most = rows_at m.modes j x at in
    let limit = are.few_rows in
    subst (λ q. IsNext m j q n) plan (record {
      mode = x;
      at = at;
      is = is;
      plan = refl;
      compiled = is.plan.tree;
      count = count;
      few = omega (arith, product, most, limit);
      wide = wide_as m.processors x is;
    })

-- 256 jobs of their own are enough for any modes
pub enough_jobs : {J : Type 0} (id : J → ℕ) (places : List (Option J)) (m : ℕ) (modes : List Mode) → AllByRecursion (IsMode m) modes → HaveOwnJobs id 256 places
    → AllByRecursion (λ (x : Mode). HaveOwnJobs id (length x.plan.set.tasks) places) modes
enough_jobs id places m [] all own = tt
enough_jobs id places m (x ∷ modes) all own = (
  λ t within. let few = all.0.lawful.lawful.few_tasks in own t (omega (arith, within, few)),
  enough_jobs id places m modes all.1 own,
)

-- ---- one step of the run

module _ {G J : Type 0} (gate : GateTells G) (job : JobTells J) (window : ℕ) (m : ModesContents) (j : ℕ) (p : PlanContents) (n : ℕ) (next : IsNext m j p n)
    (runs : List Executed)
    (old between new : CrewHeld G J) (ran : RanModes gate job (take j m.modes) window runs old between) (answer : Result Executed ExecFault)
    (run : RanMode gate job p window answer between new) where
  of_mode : RanMode gate job next.mode.plan window answer between new
  of_mode = subst (λ q. RanMode gate job q window answer between new) (sym next.plan) run

  -- the mode was run whole
  pub ran_more : (e : Executed) → answer ≡ Ok e → (runs' : List Executed) → runs' ≡ runs ++ e ∷ []
      → RanModes gate job (take (j + 1) m.modes) window runs' old new
  ran_more e ok runs' more =
      let modes : take (j + 1) m.modes ≡ take j m.modes ++ next.mode ∷ [] = ap (λ k. take k m.modes) (add-one j) ∙ take_one_more m.modes j next.mode next.at in
      let whole = subst (λ a. RanMode gate job next.mode.plan window a between new) ok of_mode in
      subst (λ xs. RanModes gate job xs window runs' old new) (sym modes)
      (subst (λ rs. RanModes gate job (take j m.modes ++ next.mode ∷ []) window rs old new) (sym more)
      (ran_next gate job window (take j m.modes) runs next.mode e old between new ran whole))

  -- the mode stopped
  pub stopped_in : (why : ExecFault) → answer ≡ Err why → (f : ModesFault) → f ≡ fault_in j why → ModesOutcome gate job m.modes window old new (Err f)
  stopped_in why err f is =
      let stopped = subst (λ a. RanMode gate job next.mode.plan window a between new) err of_mode in
      subst (λ x. ModesOutcome gate job m.modes window old new (Err x)) (sym is)
      (stops_at gate job window m.modes j next.mode runs why old between new next.at ran stopped)

-- all modes were run
pub ran_to_end : {G J : Type 0} (gate : GateTells G) (job : JobTells J) (window : ℕ) (modes : List Mode) (j : ℕ) (runs : List Executed) (old new : CrewHeld G J)
    → length modes ≤ j → RanModes gate job (take j modes) window runs old new → RanModes gate job modes window runs old new
ran_to_end gate job window modes j runs old new past ran = subst (λ xs. RanModes gate job xs window runs old new) (take_all j modes past) ran

-- all modes were run whole
pub record RunThrough {G J : Type 0} (gate : GateTells G) (job : JobTells J) (m : ℕ) (modes : List Mode) (runs : List Executed)
    (old new : CrewHeld G J) : Type 0 where
  pub gates : GatesGrewThrough gate.ran m modes old.kits new.kits
  pub whole : AllZip IsRunOf modes runs
  pub jobs : JobsUsedLast job modes old.places new.places
  pub first : GatesGrewFirst gate.ran m modes old.kits new.kits
  pub back : AreBack gate job old new

pub run_through : {G J : Type 0} (gate : GateTells G) (job : JobTells J) (window : ℕ) (m : ℕ) (modes : List Mode) → AllByRecursion (IsMode m) modes →
    (j : ℕ) (runs : List Executed) (old new : CrewHeld G J)
    → length modes ≤ j → RanModes gate job (take j modes) window runs old new → RunThrough gate job m modes runs old new
run_through gate job window m modes all j runs old new past some =
    let ran = ran_to_end gate job window modes j runs old new past some in
    record {
      gates = grew_through gate job window m modes all runs old new ran;
      whole = runs_whole gate job window modes runs old new ran;
      jobs = jobs_last gate job window m modes all runs old new ran;
      first = ran_first gate job window m modes all old new (Ok runs) ran;
      back = are_back gate job window modes old new (Ok runs) ran;
    }

-- no mode was begun yet
pub ran_none : {G J : Type 0} (gate : GateTells G) (job : JobTells J) (window : ℕ) (modes : List Mode) (runs : List Executed) (start : CrewHeld G J) → runs ≡ []
    → RanModes gate job (take 0 modes) window runs start start
ran_none gate job window modes runs start none = subst (λ rs. RanModes gate job [] window rs start start) (sym none) refl

-- where memory was refused before the first mode all is as it was
pub refused_outcome : {G J : Type 0} (gate : GateTells G) (job : JobTells J) (window : ℕ) (modes : List Mode) (old : CrewHeld G J)
    (answer : Result (List Executed) ModesFault) → IsErrAnd answer (λ e. e ≡ fault.NoMemory) → ModesOutcome gate job modes window old old answer
refused_outcome gate job window modes old (Ok runs) refused = absurd refused
refused_outcome gate job window modes old (Err (fault.Gate j q r)) refused = absurd (let e = refused in cc)
refused_outcome gate job window modes old (Err (fault.Job j t q r)) refused = absurd (let e = refused in cc)
refused_outcome gate job window modes old (Err fault.NoMemory) refused = inl refl

-- what holds of the fault that is told holds of the one that there is
pub told_fault : {T E : Type 0} (answer : Result T E) (fault : E) (P : E → Type 0) → IsErrAnd answer (λ e. e ≡ fault) → P fault → IfErr answer P
told_fault (Ok v) fault P told here = tt
told_fault (Err e) fault P told here = subst P (sym told) here

-- a fault says nothing of an answer
pub no_answer : {T E : Type 0} (answer : Result T E) (fault : E) (P : T → Type 0) → IsErrAnd answer (λ e. e ≡ fault) → IfOk answer P
no_answer (Ok v) fault P told = absurd told
no_answer (Err e) fault P told = tt
