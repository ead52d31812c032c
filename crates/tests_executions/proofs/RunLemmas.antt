-- Gates and jobs that are made one after the other, and what a run leaves in the places of the jobs.
use Rattle.std.proofs.Common.{◌≡◌, ℕ, zero, suc, ◌+◌, ◌*◌, ◌<◌, ◌≤◌, List, [], ◌∷◌, ◌++◌, Option, None, Some, Result, Ok, Err, IfOk, length, set}
use Rattle.std.proofs.Common.{refl, sym, ap, ◌∙◌, subst, arith, length-append}
use Rattle.std.specs.Prelude.{slice_get, if◌then◌else◌}
use Rattle.std.specs.Result.{is_ok}
use Rattle.sched_base.specs.declared.rows.Row.{Row}
use Rattle.sched_edges.specs.Gates.{GateHeld}
use Rattle.sched_edges.specs.Jobs.{JobAt}
use Rattle.run_tree.specs.Plans.{PlanContents, rounds_of}
use Rattle.sched_base.specs.Tables.{row_limit}
use Rattle.exec_book.specs.Jobs.{Made}
use Rattle.plan_rounds.specs.PlanRows.{IsCompiled}
use Rattle.exec_lanes.specs.declared.answers.Executed.{Executed}
use Rattle.exec_lanes.specs.declared.answers.ExecFault.{ExecFault}
use Rattle.exec_lanes.specs.declared.answers.ExecFault.TheVariants as fault
use Rattle.exec_lanes.specs.declared.kits.Kit.{Kit}
use Rattle.exec_lanes.specs.Kits.{KitAt, AreFilled}
use Rattle.exec_lanes.specs.Lanes.{LaneContents}
use Rattle.exec_workers.specs.Runs.{AreFresh, Ran, Outcome}
use Rattle.tests_executions.specs.Ready.{AreUnrun, IsReady}
use Rattle.exec_lanes.proofs.PlaceLemmas.{each_push}
use Rattle.exec_lanes.proofs.StageLemmas.{same_gate}

-- what is said of each value that a result may have, of the one that it has
pub ok_of : {A E : Type 0} (r : Result A E) (x : A) → r ≡ Ok x → (P : A → Type 0) → IfOk r P → P x
ok_of r x is P holds = subst (λ (s : _). IfOk s P) is holds

-- what a success chooses
pub chosen : {A E X : Type 0} (r : Result A E) (x : A) → r ≡ Ok x → (y a b : X) → y ≡ (if is_ok r then a else b) → y ≡ a
chosen r x is y a b by = subst (λ (s : _). y ≡ (if is_ok s then a else b)) is by

-- a place that was filled is filled again
pub laid : {X : Type 0} (xs : List X) (i : ℕ) (x y : X) → slice_get xs i ≡ Some x → slice_get (set xs i y) i ≡ Some y
laid [] i x y at = absurd (let bad : None ≡ Some x = at in cc)
laid (z ∷ xs) zero x y at = refl
laid (z ∷ xs) (suc i) x y at = laid xs i x y at

-- one place more
length_more : {X : Type 0} (n : ℕ) (xs ys : List X) (x : X) → length xs ≡ n → ys ≡ xs ++ x ∷ [] → length ys ≡ n + 1
length_more n xs ys x long is = ap length is ∙ (let l = length-append xs (x ∷ []) in omega (arith, l, long))

-- so many kits have been made, with gates that ran nothing yet
pub record AreUnrunSoFar (n : ℕ) (kits : List (Kit GateHeld)) : Type 0 where
  pub long : length kits ≡ n
  pub unrun : AreUnrun n kits

-- before the first kit
pub no_kits_made : (kits : List (Kit GateHeld)) → kits ≡ [] → AreUnrunSoFar 0 kits
no_kits_made kits none = record {
  long = ap length none;
  unrun = λ p within. absurd (omega (arith, within));
}

-- one kit more
pub one_more_kit : (n : ℕ) (kits kits' : List (Kit GateHeld)) (kit : Kit GateHeld) (gate : GateHeld) → AreUnrunSoFar n kits
    → kits' ≡ kits ++ kit ∷ [] → kit ≡ record { gate = Some gate } → gate.ran ≡ [] → AreUnrunSoFar (n + 1) kits'
one_more_kit n kits kits' kit gate so_far is holds none =
    let is' : kits' ≡ kits ++ record { gate = Some gate } ∷ [] = is ∙ ap (λ k. kits ++ k ∷ []) holds in
    record {
      long = length_more n kits kits' kit so_far.long is;
      unrun = subst (λ xs. AreUnrun (n + 1) xs) (sym is')
          (each_push (λ q o. (g : GateHeld) × (o ≡ Some (record { gate = Some g })) × (g.ran ≡ [])) kits n (record { gate = Some gate })
          so_far.long (gate, refl, none) so_far.unrun);
    }

-- all kits have been made
pub all_kits_made : (n m : ℕ) (kits : List (Kit GateHeld)) → AreUnrunSoFar n kits → m ≤ n → AreUnrun m kits
all_kits_made n m kits so_far past = λ p below. so_far.unrun p (omega (arith, below, past))

-- a plan can be executed on kits of which none ran anything
pub ready : (m n rounds window : ℕ) (p : PlanContents) (kits : List (Kit GateHeld)) → IsCompiled p → (rounds ≡ rounds_of p)
    × (rounds * p.tree.processors ≤ row_limit)
    → 1 ≤ window → window ≤ 1024 → p.tree.processors ≡ m → length p.set.tasks ≡ n → AreUnrun m kits → IsReady m n rounds window p kits
ready m n rounds window p kits compiled counted some small wide many unrun = record {
  executable = record { compiled = compiled; rounds = counted.0; few = counted.1; some_window = some; small_window = small };
  processors = wide;
  tasks = many;
  unrun = unrun;
}

module _ (m n rounds window : ℕ) (p : PlanContents) (kits : List (Kit GateHeld)) (is : IsReady m n rounds window p kits) where
  -- each processor of the plan has a gate
  pub ready_filled : AreFilled p.tree.processors kits
  ready_filled q below =
      let wide = is.processors in
      let kit = is.unrun q (omega (arith, below, wide)) in
      (kit.0, kit.1)

  -- which ran nothing
  pub ready_empty : (q : ℕ) (gate : GateHeld) → q < p.tree.processors → KitAt kits q gate → gate.ran ≡ []
  ready_empty q gate below at =
      let wide = is.processors in
      let kit = is.unrun q (omega (arith, below, wide)) in
      subst (λ (x : GateHeld). x.ran ≡ []) (same_gate kits q kit.0 gate kit.1 at) kit.2

-- one job more, which has the next number and has worked no tick
fresh_more : {J : Type 0} (id used : J → ℕ) (n : ℕ) (places places' : List (Option J)) (job : J) → length places ≡ n → AreFresh id used n places →
    places' ≡ places ++ Some job ∷ [] → id job ≡ n → used job ≡ 0 → AreFresh id used (n + 1) places'
fresh_more {J} id used n places places' job long fresh is own unused =
    subst (λ xs. AreFresh id used (n + 1) xs) (sym is)
    (each_push (λ q o. (j : J) × (o ≡ Some (Some j)) × (id j ≡ q) × (used j ≡ 0)) places n (Some job) long (job, refl, own, unused) fresh)

-- so many jobs of all have been made, none of which has worked a tick, and there is room for the others
pub record AreMade {J : Type 0} (id used : J → ℕ) (all n room : ℕ) (places : List (Option J)) : Type 0 where
  pub left : room + n ≡ all
  pub long : length places ≡ n
  pub fresh : AreFresh id used n places

module _ {J : Type 0} (id used : J → ℕ) (all : ℕ) where
  -- before the first job
  pub no_jobs_made : (room : ℕ) (places : List (Option J)) → room ≡ all → places ≡ [] → AreMade id used all 0 room places
  no_jobs_made room places whole none = record {
    left = omega (arith, whole);
    long = ap length none;
    fresh = λ t within. absurd (omega (arith, within));
  }

  -- one job more, which has the next number and has worked no tick
  pub one_more_made : (n room room' : ℕ) (places places' : List (Option J)) (job : J) → AreMade id used all n room places
      → room' + 1 ≡ room → places' ≡ places ++ Some job ∷ [] → id job ≡ n → used job ≡ 0 → AreMade id used all (n + 1) room' places'
  one_more_made n room room' places places' job so_far less is own unused = record {
    left = let left = so_far.left in omega (arith, left, less);
    long = length_more n places places' (Some job) so_far.long is;
    fresh = fresh_more id used n places places' job so_far.long so_far.fresh is own unused;
  }

  -- all jobs have been made
  pub all_made : (n room : ℕ) (places : List (Option J)) → AreMade id used all n room places → all ≤ n → (m : ℕ) → m ≡ all → AreFresh id used m places
  all_made n room places made past m same = λ t below. made.fresh t (omega (arith, below, same, past))

module _ {G J : Type 0} (ran : G → Option (List Row)) (gate_faults : G → ℕ) (id used : J → ℕ) (made : J → Made) (job_faults : J → ℕ) (p : PlanContents)
    (window : ℕ) (kits kits' : List (Kit G)) (places places' : List (Option J)) where
  left_by : (lanes : List LaneContents) → Ran ran gate_faults id used made job_faults p window kits kits' places places' lanes → (t : ℕ) (job : J) →
      t < length p.set.tasks → JobAt places t job → (now : J) × JobAt places' t now
  left_by lanes run t job within at = let now = run.jobs t job within at in (now.0, now.1)

  -- the job of a task is in its place again, whatever the run answers
  pub job_left : (result : Result Executed ExecFault) → Outcome ran gate_faults id used made job_faults p window kits kits' places places' result →
      (t : ℕ) (job : J) → t < length p.set.tasks → JobAt places t job → (now : J) × JobAt places' t now
  job_left (Ok e) o = left_by o.0 o.1
  job_left (Err (fault.Gate processor row posts)) o = left_by o.0 o.1
  job_left (Err (fault.Job task processor row posts)) o = left_by o.0 o.1
  job_left (Err fault.NoMemory) o = λ t job within at. (job, ap (λ xs. slice_get xs t) o.1 ∙ at)
