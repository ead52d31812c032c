-- What one mode does to the gates and to the jobs.
use Rattle.std.proofs.Common.{◌≡◌, ℕ, zero, suc, ◌<◌, ◌≤◌, nat_lt, if◌then◌else◌, true, false, inl, inr, List, [], ◌∷◌, Option, Some, None}
use Rattle.std.proofs.Common.{Result, Ok, Err, OnOk, IsOk, length, take, option_map}
use Rattle.std.proofs.Common.{refl, sym, ap, ◌∙◌, subst, arith, rules, lt-ltb, eq-eqb}
use Rattle.std.specs.Prelude.{slice_get}
use Rattle.sched_base.specs.declared.sets.Task.{Task}
use Rattle.sched_base.specs.declared.rows.Leaf.TheVariants as leaf
use Rattle.sched_base.specs.declared.rows.Row.{Row}
use Rattle.sched_base.specs.Rows.{is_of_task}
use Rattle.sched_base.specs.Tables.{all_rows, lane_of, ticks_in}
use Rattle.sched_edges.specs.declared.gates.Gate.{Ghosts as GateTells}
use Rattle.sched_edges.specs.declared.jobs.Job.{Ghosts as JobTells}
use Rattle.sched_edges.specs.Gates.{grown}
use Rattle.sched_edges.specs.Jobs.{JobAt}
use Rattle.job_vm.specs.Seen.{JobSeen, job_seen, jobs_of, seen}
use Rattle.job_vm.specs.Loading.{anew, loaded}
use Rattle.job_vm.proofs.LoadingLemmas.{loaded_past, seen_at}
use Rattle.run_tree.specs.Plans.{PlanContents, IsPlan}
use Rattle.plan_rounds.specs.PlanRows.{plan_rows}
use Rattle.plan_rounds.proofs.RoundLemmas.{below_or, names_task}
use Rattle.exec_lanes.specs.declared.answers.Executed.{Executed}
use Rattle.exec_lanes.specs.declared.answers.ExecFault.{ExecFault}
use Rattle.exec_lanes.specs.declared.answers.ExecFault.TheVariants as exec
use Rattle.exec_lanes.specs.declared.causes.Cause.{Cause}
use Rattle.exec_lanes.specs.declared.causes.Cause.TheVariants as cause
use Rattle.exec_lanes.specs.declared.kits.Kit.{Kit}
use Rattle.exec_lanes.specs.Kits.{KitAt, AreFilled}
use Rattle.exec_lanes.specs.Lanes.{LaneContents, HasRisen, FailsNext, lane_in}
use Rattle.exec_workers.specs.Runs.{CountsGate, Ran, Outcome, GatesGrew, AreFresh}
use Rattle.exec_workers.proofs.HeadlineLemmas.{gate_first, gates_grew}
use Rattle.exec_lanes.proofs.ServeLemmas.{grown-nil}
use Rattle.exec_lanes.proofs.StageLemmas.{same_gate, same_job}
use Rattle.exec_workers.proofs.WholeLemmas.{ticks_at_end}
use Rattle.mode_join.specs.declared.mode.Mode.{Mode}
use Rattle.mode_switch.specs.Runs.{CrewHeld, HaveOwnJobs, HasBegun, RanMode, AreBack, IsRunOf}

-- ---- jobs that begin anew

-- the job of a task begins anew
loaded_within : (tasks : List Task) (jobs : List (Option JobSeen)) (i : ℕ) (s : JobSeen) → i < length tasks → slice_get jobs i ≡ Some (Some s)
    → slice_get (loaded 1 [] tasks jobs) i ≡ Some (Some (anew 1 [] s))
loaded_within [] jobs i s within at = absurd (omega (arith, within))
loaded_within (t ∷ tasks) [] i s within at = absurd (let bad : ◌≡◌ {A = Option (Option JobSeen)} None (Some (Some s)) = at in cc)
loaded_within (t ∷ tasks) (place ∷ jobs) zero s within at =
    let here : place ≡ Some s = cc in
    ap (λ (o : Option JobSeen). Some (option_map (anew 1 []) o)) here
loaded_within (t ∷ tasks) (place ∷ jobs) (suc i) s within at = loaded_within tasks jobs i s (omega (arith, within)) at

-- a place that shows a job holds it
seen_back : {J : Type 0} (tells : JobTells J) (places : List (Option J)) (i : ℕ) (s : JobSeen) → slice_get (seen tells places) i ≡ Some (Some s)
    → (job : J) × JobAt places i job × (job_seen tells.id tells.used tells.faults tells.made job ≡ s)
seen_back tells [] i s at = absurd (let bad : ◌≡◌ {A = Option (Option JobSeen)} None (Some (Some s)) = at in cc)
seen_back tells (None ∷ places) zero s at = absurd (let bad : ◌≡◌ {A = Option (Option JobSeen)} (Some None) (Some (Some s)) = at in cc)
seen_back tells (Some job ∷ places) zero s at =
    let is : ◌≡◌ {A = Option (Option JobSeen)} (Some (Some (job_seen tells.id tells.used tells.faults tells.made job))) (Some (Some s)) = at in
    (job, refl, (cc))
seen_back tells (place ∷ places) (suc i) s at = seen_back tells places i s at

-- a job once the jobs of these tasks began anew
record BeganAs {J : Type 0} (tells : JobTells J) (tasks : List Task) (i : ℕ) (before now : J) : Type 0 where
  id : tells.id now ≡ tells.id before
  faults : tells.faults now ≡ tells.faults before
  within : i < length tasks → tells.used now ≡ 0
  past : length tasks ≤ i → tells.used now ≡ tells.used before

began : {G J : Type 0} (tells : JobTells J) (tasks : List Task) (old new : CrewHeld G J) → HasBegun tells tasks old new → (i : ℕ) (job : J) →
    JobAt old.places i job
    → (now : J) × JobAt new.places i now × BeganAs tells tasks i job now
began tells tasks old new begins i job at =
    let shown = seen_at tells old.places i job at in
    let before = job_seen tells.id tells.used tells.faults tells.made job in
    elim (below_or i (length tasks)) [
      | inl within ↦
          let there = ap (λ (s : List (Option JobSeen)). slice_get s i) begins.jobs ∙ loaded_within tasks (seen tells old.places) i before within shown in
          let (now, here, same) = seen_back tells new.places i (anew 1 [] before) there in (
            now,
            here,
            record {
              id = ap (λ (s : JobSeen). s.id) same;
              faults = ap (λ (s : JobSeen). s.faults) same;
              within = λ _. ap (λ (s : JobSeen). s.used) same;
              past = λ past. absurd (omega (arith, within, past));
            },
          )
      | inr past ↦
          let there = ap (λ (s : List (Option JobSeen)). slice_get s i) begins.jobs ∙ loaded_past 1 [] tasks (seen tells old.places) i past ∙ shown in
          let (now, here, same) = seen_back tells new.places i before there in (
            now,
            here,
            record {
              id = ap (λ (s : JobSeen). s.id) same;
              faults = ap (λ (s : JobSeen). s.faults) same;
              within = λ within. absurd (omega (arith, within, past));
              past = λ _. ap (λ (s : JobSeen). s.used) same;
            },
          )
    ]

-- jobs of their own that began anew are fresh
pub fresh_begun : {G J : Type 0} (tells : JobTells J) (tasks : List Task) (old new : CrewHeld G J) → HasBegun tells tasks old new →
    HaveOwnJobs tells.id (length tasks) old.places
    → AreFresh tells.id tells.used (length tasks) new.places
fresh_begun tells tasks old new begins own t within =
    let (job, at, is) = own t within in
    let (now, here, kept) = began tells tasks old new begins t job at in
    (now, here, kept.id ∙ is, kept.within within)

-- the same, by what each job tells
pub fresh_at : {J : Type 0} (id used faults : J → ℕ) (made : J → Option (ℕ × List ℕ)) (tasks : List Task) (old new : List (Option J))
    → jobs_of id used faults made new ≡ loaded 1 [] tasks (jobs_of id used faults made old) → HaveOwnJobs id (length tasks) old →
    AreFresh id used (length tasks) new
fresh_at {J} id used faults made tasks old new is own =
    let tells : JobTells J = record { id = id; used = used; faults = faults; made = made } in
    fresh_begun {G = ℕ} tells tasks (record { kits = []; places = old }) (record { kits = []; places = new }) (record { gates = refl; jobs = is }) own

-- where it is sure to be Ok, what holds at Ok holds
pub at_ok : {E : Type 0} (P : Type 0) (result : Result (Unit {0}) E) → IsOk result → OnOk result P → P
at_ok P (Ok v) sure on = on
at_ok P (Err e) sure on = absurd (let bad : false ≡ true = sure in cc)

-- ---- counts of faults

pub risen_later : (a b c : ℕ) → a ≤ b → HasRisen b c → HasRisen a c
risen_later a b c less risen = record {
  later = let later = risen.later in omega (arith, less, later);
  rose = let rose = risen.rose in omega (arith, less, rose);
}

later_gate : (c : Option Cause) (before now : ℕ) → CountsGate c before now → before ≤ now
later_gate None before now e = omega (arith, e)
later_gate (Some (cause.Gate r)) before now e = e.later
later_gate (Some (cause.Job r faults)) before now e = omega (arith, e)

of_its_task : (t : ℕ) (r : Row) → r.leaf ≡ leaf.Task (record { 0 = t }) → is_of_task t r.leaf ≡ true
of_its_task t r of = ap (is_of_task t) of ∙ eq-eqb t t refl

-- ---- all are back

module _ {G J : Type 0} (gate : GateTells G) (job : JobTells J) where
  pub back_same : (a : CrewHeld G J) → AreBack gate job a a
  back_same a = record {
    gates = λ q g at. (g, at, omega arith);
    jobs = λ i j at. (j, at, refl, omega arith);
  }

  pub back_on : (a b c : CrewHeld G J) → AreBack gate job a b → AreBack gate job b c → AreBack gate job a c
  back_on a b c first second = record {
    gates = λ q g at.
        let (h, here, later) = first.gates q g at in
        let (now, there, more) = second.gates q h here in
        (now, there, omega (arith, later, more));
    jobs = λ i j at.
        let (k, here, own, later) = first.jobs i j at in
        let (now, there, own', more) = second.jobs i k here in
        (now, there, own' ∙ own, omega (arith, later, more));
  }

  back_begun : (tasks : List Task) (old new : CrewHeld G J) → HasBegun job tasks old new → AreBack gate job old new
  back_begun tasks old new begins = record {
    gates = λ q g at. (g, ap (λ (kits : List (Kit G)). slice_get kits q) begins.gates ∙ at, omega arith);
    jobs = λ i j at.
        let (now, here, kept) = began job tasks old new begins i j at in
        let same = kept.faults in
        (now, here, kept.id, omega (arith, same));
  }

  back_ran : (p : PlanContents) (window : ℕ) (a b : CrewHeld G J) (lanes : List LaneContents)
      → Ran gate.ran gate.faults job.id job.used job.made job.faults p window a.kits b.kits a.places b.places lanes → AreBack gate job a b
  back_ran p window a b lanes r = record {
    gates = λ q g at. elim (below_or q p.tree.processors) [
      | inl within ↦
          let (now, there, gr) = r.gates q g within at in
          (now, there, later_gate (lane_in lanes q).cause (gate.faults g) (gate.faults now) gr.count)
      | inr past ↦ (g, r.other_kits q past ∙ at, omega arith)
    ];
    jobs = λ i j at. elim (below_or i (length p.set.tasks)) [
      | inl within ↦
          let (now, there, jr) = r.jobs i j within at in
          (now, there, jr.own, jr.later)
      | inr past ↦ (j, r.other_jobs i past ∙ at, refl, omega arith)
    ];
  }

  back_outcome : (p : PlanContents) (window : ℕ) (a b : CrewHeld G J) (answer : Result Executed ExecFault)
      → Outcome gate.ran gate.faults job.id job.used job.made job.faults p window a.kits b.kits a.places b.places answer → AreBack gate job a b
  back_outcome p window a b (Ok e) o = back_ran p window a b o.0 o.1
  back_outcome p window a b (Err (exec.Gate q r n)) o = back_ran p window a b o.0 o.1
  back_outcome p window a b (Err (exec.Job t q r n)) o = back_ran p window a b o.0 o.1
  back_outcome p window a b (Err exec.NoMemory) o = record {
    gates = λ q g at. (g, ap (λ (kits : List (Kit G)). slice_get kits q) o.0 ∙ at, omega arith);
    jobs = λ i j at. (j, ap (λ (places : List (Option J)). slice_get places i) o.1 ∙ at, refl, omega arith);
  }

  -- whatever a mode answers, all are back
  pub back_mode : (p : PlanContents) (window : ℕ) (answer : Result Executed ExecFault) (old new : CrewHeld G J) → RanMode gate job p window answer old new
      → AreBack gate job old new
  back_mode p window answer old new run =
      back_on old run.begun new (back_begun p.set.tasks old run.begun run.begins) (back_outcome p window run.begun new answer run.outcome)

  -- ---- a mode that was run whole

  module _ (p : PlanContents) (window : ℕ) (h : IsPlan p) (e : Executed) (old new : CrewHeld G J) (run : RanMode gate job p window (Ok e) old new) where
    pub mode_gates : GatesGrew gate.ran p old.kits new.kits
    mode_gates = subst (λ (kits : List (Kit G)). GatesGrew gate.ran p kits new.kits) run.begins.gates
        (gates_grew gate.ran gate.faults job.id job.used job.made job.faults p window h run.begun.kits new.kits run.begun.places new.places (Ok e)
        run.outcome)

    pub mode_jobs : (i : ℕ) (j : J) → JobAt old.places i j → (now : J) × JobAt new.places i now × (job.id now ≡ job.id j)
        × (job.used now ≡ (if nat_lt i (length p.set.tasks) then ticks_in i (all_rows (plan_rows p)) else job.used j))
    mode_jobs i j at =
        let (b, here, kept) = began job p.set.tasks old run.begun run.begins i j at in
        let ticks = ticks_in i (all_rows (plan_rows p)) in
        elim (below_or i (length p.set.tasks)) [
          | inl within ↦
              let (now, there, jr) = run.outcome.1.jobs i b within here in
              let all = ticks_at_end p h run.outcome.0 run.outcome.1.width run.outcome.2.all_posted i in
              let test : nat_lt i (length p.set.tasks) ≡ true = lt-ltb i (length p.set.tasks) within in (
                now,
                there,
                jr.own ∙ kept.id,
                jr.worked ∙ all ∙ sym (ap (λ t. if t then ticks else job.used j) test),
              )
          | inr past ↦
              let test : nat_lt i (length p.set.tasks) ≡ false = search (rules, past) in (
                b,
                run.outcome.1.other_jobs i past ∙ here,
                kept.id,
                kept.past past ∙ sym (ap (λ t. if t then ticks else job.used j) test),
              )
        ]

  pub mode_run : (m : Mode) (window : ℕ) (e : Executed) (old new : CrewHeld G J) → RanMode gate job m.plan window (Ok e) old new → IsRunOf m e
  mode_run m window e old new run = record { table = run.outcome.2.table; totals = run.outcome.2.totals; valid = run.outcome.2.valid }

  -- ---- a mode that may have stopped

  first_ran : (p : PlanContents) (window : ℕ) (a b : CrewHeld G J) (lanes : List LaneContents)
      → Ran gate.ran gate.faults job.id job.used job.made job.faults p window a.kits b.kits a.places b.places lanes → (q : ℕ) (g : G) →
      q < p.tree.processors → KitAt a.kits q g
      → (now : G) × KitAt b.kits q now × ((k : ℕ) × (gate.ran now ≡ grown (gate.ran g) (take k (lane_of (plan_rows p) q))))
  first_ran p window a b lanes r q g within at =
      let (now, there, gr) = r.gates q g within at in
      let lane = lane_in lanes q in
      let next = subst (λ n. FailsNext (plan_rows p) (record { lane = n; posted = lane.seat.posted }) lane.cause) gr.own gr.next in
      let first = gate_first (plan_rows p) q lane.seat.posted lane.cause next in
      (now, there, (first.0, gr.list ∙ ap (grown (gate.ran g)) first.1))

  first_outcome : (p : PlanContents) (window : ℕ) (a b : CrewHeld G J) (answer : Result Executed ExecFault)
      → Outcome gate.ran gate.faults job.id job.used job.made job.faults p window a.kits b.kits a.places b.places answer → (q : ℕ) (g : G) →
      q < p.tree.processors → KitAt a.kits q g
      → (now : G) × KitAt b.kits q now × ((k : ℕ) × (gate.ran now ≡ grown (gate.ran g) (take k (lane_of (plan_rows p) q))))
  first_outcome p window a b (Ok e) o q g within at = first_ran p window a b o.0 o.1 q g within at
  first_outcome p window a b (Err (exec.Gate x r n)) o q g within at = first_ran p window a b o.0 o.1 q g within at
  first_outcome p window a b (Err (exec.Job t x r n)) o q g within at = first_ran p window a b o.0 o.1 q g within at
  first_outcome p window a b (Err exec.NoMemory) o q g within at =
      (g, ap (λ (kits : List (Kit G)). slice_get kits q) o.0 ∙ at, (0, sym (grown-nil (gate.ran g))))

  -- whatever a mode answers, each gate ran first rows of its processor
  pub mode_first : (p : PlanContents) (window : ℕ) (answer : Result Executed ExecFault) (old new : CrewHeld G J) → RanMode gate job p window answer old new
      → (q : ℕ) (g : G) → q < p.tree.processors → KitAt old.kits q g
      → (now : G) × KitAt new.kits q now × ((k : ℕ) × (gate.ran now ≡ grown (gate.ran g) (take k (lane_of (plan_rows p) q))))
  mode_first p window answer old new run q g within at =
      first_outcome p window run.begun new answer run.outcome q g within (ap (λ (kits : List (Kit G)). slice_get kits q) run.begins.gates ∙ at)

  -- the gate that is named failed
  pub gate_risen : (p : PlanContents) (window q : ℕ) (r : Row) (n : ℕ) (old new : CrewHeld G J) → RanMode gate job p window (Err (exec.Gate q r n)) old new
      → (g now : G) → KitAt old.kits q g → KitAt new.kits q now → HasRisen (gate.faults g) (gate.faults now)
  gate_risen p window q r n old new run g now at there =
      let ran = run.outcome.1 in
      let failed = run.outcome.2.0 in
      let width = ran.width in
      let lane = failed.0 in
      let inside : q < p.tree.processors = omega (arith, width, lane) in
      let (found, here, gr) = ran.gates q g inside (ap (λ (kits : List (Kit G)). slice_get kits q) run.begins.gates ∙ at) in
      let risen : HasRisen (gate.faults g) (gate.faults found) = subst (λ (c : Option Cause). CountsGate c (gate.faults g) (gate.faults found)) failed.1
      gr.count in
      subst (λ (x : G). HasRisen (gate.faults g) (gate.faults x)) (same_gate new.kits q found now here there) risen

  -- the job that is named failed
  pub job_risen : (p : PlanContents) (window : ℕ) → IsPlan p → (t q : ℕ) (r : Row) (n : ℕ) (old new : CrewHeld G J) → AreFilled p.tree.processors old.kits
      → RanMode gate job p window (Err (exec.Job t q r n)) old new
      → (j now : J) → JobAt old.places t j → JobAt new.places t now → HasRisen (job.faults j) (job.faults now)
  job_risen p window h t q r n old new filled run j now at there =
      let ran = run.outcome.1 in
      let lanes = run.outcome.0 in
      let lane = lane_in lanes q in
      let (faults, failed) = run.outcome.2.1 in
      let width = ran.width in
      let below = failed.lane in
      let inside : q < p.tree.processors = omega (arith, width, below) in
      let (g, kit) = filled q inside in
      let (found, here, gr) = ran.gates q g inside (ap (λ (kits : List (Kit G)). slice_get kits q) run.begins.gates ∙ kit) in
      let next : FailsNext (plan_rows p) lane.seat (Some (cause.Job r faults)) = subst (λ (c : Option Cause). FailsNext (plan_rows p) lane.seat c)
      failed.cause gr.next in
      let within : t < length p.set.tasks = names_task p h lane.seat.lane lane.seat.posted t r next (of_its_task t r failed.of_task) in
      let (b, began_at, kept) = began job p.set.tasks old run.begun run.begins t j at in
      let (found_job, job_at, jr) = ran.jobs t b within began_at in
      let risen = jr.risen q r faults failed in
      let same = kept.faults in
      subst (λ (x : J). HasRisen (job.faults j) (job.faults x)) (same_job new.places t found_job now job_at there)
      (subst (λ c. HasRisen c (job.faults found_job)) same risen)
