-- What running modes does to the gates and to the jobs, as the crew shows it.
use Rattle.std.proofs.Common.{◌≡◌, ◌⊎◌, inl, inr, ℕ, zero, suc, ◌+◌, ◌≤◌, ◌<◌, true, false, Bool, if◌then◌else◌, List, [], ◌∷◌, ◌++◌, Option, Some}
use Rattle.std.proofs.Common.{None, Result, Ok, Err}
use Rattle.std.proofs.Common.{option_map, length, take, refl, sym, ◌∙◌, ap, subst, arith, append_assoc, append-nil}
use Rattle.std.specs.Prelude.{slice_get, nat_lt}
use Rattle.std.specs.List.{AllByRecursion}
use Rattle.std.proofs.lemmas.Bool.{lt-ltb, le-ltb}
use Rattle.sched_base.specs.declared.rows.Leaf.{Leaf}
use Rattle.sched_base.specs.declared.rows.Row.{Row}
use Rattle.sched_base.specs.declared.sets.Task.{Task}
use Rattle.sched_base.specs.Sets.{SetContents, task_at}
use Rattle.sched_base.specs.Lanes.{NamesOneOf}
use Rattle.sched_base.specs.Tables.{all_rows, lane_of, ticks_in}
use Rattle.sched_edges.specs.Causes.{Rose}
use Rattle.sched_edges.specs.declared.gates.Gate.{Ghosts as GateTells}
use Rattle.sched_edges.specs.declared.jobs.Job.{Ghosts as JobTells}
use Rattle.sched_edges.specs.Gates.{grown}
use Rattle.sched_edges.specs.Jobs.{reloaded}
use Rattle.job_vm.specs.Loading.{anew, code_of}
use Rattle.job_vm.proofs.LoadingLemmas.{loaded_past}
use Rattle.run_tree.specs.Plans.{PlanContents, IsPlan}
use Rattle.plan_rounds.specs.PlanRows.{plan_rows}
use Rattle.exec_lanes.specs.declared.answers.Executed.{Executed}
use Rattle.exec_lanes.specs.declared.answers.ExecFault.TheVariants as exec
use Rattle.exec_lanes.specs.Kits.{AreFilled}
use Rattle.exec_workers.specs.Runs.{AreFresh}
use Rattle.mode_join.specs.declared.mode.Mode.{Mode}
use Rattle.mode_join.specs.Modes.{IsMode}
use Rattle.mode_switch.specs.Runs.{CrewHeld, RanMode, RanModes, StopsIn, ModesOutcome, rows_through, used_after}
use Rattle.mode_switch.specs.declared.answers.ModesFault.{ModesFault}
use Rattle.mode_switch.specs.declared.answers.ModesFault.TheVariants as fault
use Rattle.mode_switch.specs.Runs as modes
use Rattle.pure_commands.specs.declared.mode_refusal.ModeRefusal.{ModeRefusal}
use Rattle.pure_commands.specs.declared.mode_refusal.ModeRefusal.TheVariants as mode
use Rattle.run_tool.specs.Executions.{GateSeen, JobSeen, Crew, gates_of, jobs_of, Holds, IsFreshCrew, AreBack, RanAll, GateRose, JobRose, GateStopped}
use Rattle.run_tool.specs.Executions.{JobStopped, name_at, usual_window}
use Rattle.run_tool.proofs.CrewMade.{crew}
use Rattle.run_tool.specs.ModeRuns.{made_after, RanThrough, StopsInMode, StopsBetween}
use Rattle.run_tool.specs.Executions.{loaded_crew}
use Rattle.run_tool.proofs.CrewLemmas.{below_or, seen_gate, seen_job, gate_in_kit, kit_shown, job_in_place, place_shown}
use Rattle.run_tool.proofs.CrewEndLemmas.{same_seen, no_ticks_at_all, ran_to_end, gate_stopped, gate_names, gate_below, job_stopped, job_names}
use Rattle.run_tool.proofs.LoadedLemmas.{loaded_held, loaded_at, unloaded}

-- ---- crews with a gate for each processor and a job for each task

-- there is a gate for each of 32 processors and its own job for each of 256 tasks
pub record IsStaffed (c : Crew) : Type 0 where
  pub gates : (q : ℕ) → q < 32 → (g : GateSeen) × Holds c.gates q g
  pub jobs : (i : ℕ) → i < 256 → (j : JobSeen) × Holds c.jobs i j × (j.id ≡ i)

pub ready_staffed : (c : Crew) → IsFreshCrew c → IsStaffed c
ready_staffed c ready = record {
  gates = λ q within. let (g, at, none) = ready.gates q within in (g, at);
  jobs = λ i within. let (j, at, own, none) = ready.jobs i within in (j, at, own);
}

begun_staffed : (tasks : List Task) (c : Crew) → IsStaffed c → IsStaffed (loaded_crew [] 1 tasks c)
begun_staffed tasks c staffed = record {
  gates = staffed.gates;
  jobs = λ i within.
      let (j, at, own) = staffed.jobs i within in
      let (k, there, same) = loaded_held 1 [] tasks c.jobs i j at in
      (k, there, same.id ∙ own);
}

ran_staffed : (p : PlanContents) (old new : Crew) → RanAll p old new → IsStaffed old → IsStaffed new
ran_staffed p old new ran staffed = record {
  gates = λ q within.
      let (g, at) = staffed.gates q within in
      (record { ran = grown g.ran (lane_of (plan_rows p) q); faults = g.faults }, ran.gates q g at);
  jobs = λ i within.
      let (j, at, own) = staffed.jobs i within in
      (record j { used = j.used + ticks_in i (all_rows (plan_rows p)) }, ran.jobs i j at, own);
}

-- ---- modes that were run one after the other

grown_more : (ran : Option (List Row)) (xs ys : List Row) → grown (grown ran xs) ys ≡ grown ran (xs ++ ys)
grown_more None xs ys = refl
grown_more (Some rows) xs ys = ap Some (append_assoc rows xs ys)

grown_same : (ran : Option (List Row)) → grown ran [] ≡ ran
grown_same None = refl
grown_same (Some rows) = ap Some (append-nil rows)

pub none_through : (c : Crew) → RanThrough [] c c
none_through c = record {
  gates = λ q g at. at ∙ (λ i. Some (Some (record { ran = sym (grown_same g.ran) i; faults = g.faults })));
  jobs = λ i j at. (j, at, refl, refl, refl, refl);
  valid = tt;
}

if_true : {A : Type 0} (b : Bool) (x y : A) → b ≡ true → (if b then x else y) ≡ x
if_true true x y e = refl
if_true false x y e = absurd (let bad : false ≡ true = e in cc)

if_false : {A : Type 0} (b : Bool) (x y : A) → b ≡ false → (if b then x else y) ≡ y
if_false false x y e = refl
if_false true x y e = absurd (let bad : true ≡ false = e in cc)

-- what a job is made of after a mode of this plan
abbrev made_in : PlanContents → ℕ → Option (ℕ × List ℕ) → Option (ℕ × List ℕ)
made_in p i made = if nat_lt i (length p.set.tasks) then reloaded made 1 [] else made

-- what a job has used after a mode of this plan that it began with so many ticks
abbrev used_in : PlanContents → ℕ → ℕ → ℕ
used_in p i used = if nat_lt i (length p.set.tasks) then ticks_in i (all_rows (plan_rows p)) else used

module _ (m : Mode) (ms : List Mode) (names : AllByRecursion (λ rows. AllByRecursion (λ r. NamesOneOf m.plan.set.tasks r.leaf) rows) (plan_rows m.plan))
    (a b c : Crew) (first : RanAll m.plan (loaded_crew [] 1 m.plan.set.tasks a) b) (rest : RanThrough ms b c) where
  -- a job after the first mode
  job_then : (i : ℕ) (j : JobSeen) → Holds a.jobs i j
      → (k : JobSeen) × Holds b.jobs i k × (k.id ≡ j.id) × (k.used ≡ used_in m.plan i j.used) × (k.faults ≡ j.faults)
      × (k.made ≡ made_in m.plan i j.made)
  job_then i j at = elim (below_or i (length m.plan.set.tasks)) [
    | inl within ↦
        let begun = anew 1 (code_of [] (task_at m.plan.set.tasks i).name) j in
        let ticks = ticks_in i (all_rows (plan_rows m.plan)) in
        let sum : 0 + ticks ≡ ticks = omega arith in (
          record begun { used = 0 + ticks },
          first.jobs i begun (loaded_at 1 [] m.plan.set.tasks a.jobs i j within at),
          refl,
          sum ∙ sym (if_true (nat_lt i (length m.plan.set.tasks)) ticks j.used (lt-ltb _ _ within)),
          refl,
          sym (if_true (nat_lt i (length m.plan.set.tasks)) (reloaded j.made 1 []) j.made (lt-ltb _ _ within)),
        )
    | inr past ↦
        let ticks = ticks_in i (all_rows (plan_rows m.plan)) in
        let none = no_ticks_at_all m.plan.set.tasks i (plan_rows m.plan) names past in
        let sum : j.used + ticks ≡ j.used = omega (arith, none) in (
          record j { used = j.used + ticks },
          first.jobs i j (loaded_past 1 [] m.plan.set.tasks a.jobs i past ∙ at),
          refl,
          sum ∙ sym (if_false (nat_lt i (length m.plan.set.tasks)) ticks j.used (le-ltb _ _ past)),
          refl,
          sym (if_false (nat_lt i (length m.plan.set.tasks)) (reloaded j.made 1 []) j.made (le-ltb _ _ past)),
        )
  ]

  pub one_more_through : RanThrough (m ∷ ms) a c
  one_more_through = record {
    gates = λ q g at.
        let lane = lane_of (plan_rows m.plan) q in
        let after = rest.gates q (record { ran = grown g.ran lane; faults = g.faults }) (first.gates q g at) in
        after ∙ (λ i. Some (Some (record { ran = grown_more g.ran lane (rows_through ms q) i; faults = g.faults })));
    jobs = λ i j at.
        let (k, there, own, used, kept, made) = job_then i j at in
        let (l, here, own', used', kept', made') = rest.jobs i k there in
        (l, here, own' ∙ own, used' ∙ ap (used_after ms i) used, kept' ∙ kept, made' ∙ ap (made_after ms i) made);
    valid = (first.valid, rest.valid);
  }

-- ---- by what the gates and the jobs tell

module _ {G J : Type 0} (gate : GateTells G) (job : JobTells J)
    (names : (p : PlanContents) → IsPlan p → AllByRecursion (λ rows. AllByRecursion (λ r. NamesOneOf p.set.tasks r.leaf) rows) (plan_rows p)) where
  -- what the gates in their kits and the jobs in their places tell
  abbrev pub crew_at : CrewHeld G J → Crew
  crew_at r = crew (gates_of gate.ran gate.faults r.kits) (jobs_of job.id job.used job.faults job.made r.places)

  pub filled_by : (r : CrewHeld G J) (n : ℕ) → n ≤ 32 → IsStaffed (crew_at r) → AreFilled n r.kits
  filled_by r n few staffed q within =
      let (g, at) = staffed.gates q (omega (arith, few, within)) in
      let (x, there, same) = gate_in_kit gate.ran gate.faults r.kits q g at in
      (x, there)

  module _ (p : PlanContents) (h : IsPlan p) (old begun : CrewHeld G J) (begins : modes.HasBegun job p.set.tasks old begun)
      (staffed : IsStaffed (crew_at old)) where
    begun_is : crew_at begun ≡ loaded_crew [] 1 p.set.tasks (crew_at old)
    begun_is = λ i. crew (gates_of gate.ran gate.faults (begins.gates i)) (begins.jobs i)

    still_staffed : IsStaffed (crew_at begun)
    still_staffed = subst IsStaffed (sym begun_is) (begun_staffed p.set.tasks (crew_at old) staffed)

    filled : AreFilled p.tree.processors begun.kits
    filled = filled_by begun p.tree.processors h.sized.few_processors still_staffed

    fresh : AreFresh job.id job.used (length p.set.tasks) begun.places
    fresh t within =
        let few = h.lawful.few_tasks in
        let (j, at, own) = staffed.jobs t (omega (arith, within, few)) in
        let begins_at = loaded_at 1 [] p.set.tasks (crew_at old).jobs t j within at in
        let k = anew 1 (code_of [] (task_at p.set.tasks t).name) j in
        let there : Holds (crew_at begun).jobs t k = subst (λ (c : Crew). Holds c.jobs t k) (sym begun_is) begins_at in
        let (x, here, same) = job_in_place job.id job.used job.faults job.made begun.places t k there in
        (x, here, ap (λ (y : JobSeen). y.id) same ∙ own, ap (λ (y : JobSeen). y.used) same)

  -- a mode that was run whole
  mode_whole : (p : PlanContents) (window : ℕ) → IsPlan p → (old new : CrewHeld G J) (e : Executed) → IsStaffed (crew_at old)
      → RanMode gate job p window (Ok e) old new → RanAll p (loaded_crew [] 1 p.set.tasks (crew_at old)) (crew_at new)
  mode_whole p window h old new e staffed ran =
      let begun = ran.begun in
      let o = ran.outcome in
      subst (λ (c : Crew). RanAll p c (crew_at new)) (begun_is p h old begun ran.begins staffed)
      (ran_to_end gate.ran gate.faults job.id job.used job.made job.faults p window h begun.kits new.kits begun.places new.places
      (filled p h old begun ran.begins staffed) (fresh p h old begun ran.begins staffed) (names p h) o.0 o.1 e o.2)

  -- modes that were run whole
  pub through : (ms : List Mode) (window : ℕ) (runs : List Executed) (old new : CrewHeld G J) → AllByRecursion (λ m. IsPlan m.plan) ms
      → IsStaffed (crew_at old) → RanModes gate job ms window runs old new → RanThrough ms (crew_at old) (crew_at new) × IsStaffed (crew_at new)
  through [] window [] old new all staffed same = (
    subst (λ (r : CrewHeld G J). RanThrough [] (crew_at old) (crew_at r)) (sym same) (none_through (crew_at old)),
    subst (λ (r : CrewHeld G J). IsStaffed (crew_at r)) (sym same) staffed,
  )
  through [] window (e ∷ runs) old new all staffed ran = absurd ran
  through (m ∷ ms) window [] old new all staffed ran = absurd ran
  through (m ∷ ms) window (e ∷ runs) old new all staffed ran =
      let (between, here, later) = ran in
      let first = mode_whole m.plan window all.0 old between e staffed here in
      let still = ran_staffed m.plan _ _ first (begun_staffed m.plan.set.tasks (crew_at old) staffed) in
      let (rest, end) = through ms window runs between new all.1 still later in
      (one_more_through m ms (names m.plan all.0) (crew_at old) (crew_at between) (crew_at new) first rest, end)

  -- all are back
  pub back_at : (old new : CrewHeld G J) → modes.AreBack gate job old new → AreBack (crew_at old) (crew_at new)
  back_at old new back = record {
    gates = λ q g at.
        let (x, there, same) = gate_in_kit gate.ran gate.faults old.kits q g at in
        let (now, here, later) = back.gates q x there in (
          seen_gate gate.ran gate.faults now,
          kit_shown gate.ran gate.faults new.kits q now here,
          subst (λ (y : GateSeen). y.faults ≤ gate.faults now) same later,
        );
    jobs = λ i j at.
        let (x, there, same) = job_in_place job.id job.used job.faults job.made old.places i j at in
        let (now, here, own, later) = back.jobs i x there in (
          seen_job job.id job.used job.faults job.made now,
          place_shown job.id job.used job.faults job.made new.places i now here,
          own ∙ ap (λ (y : JobSeen). y.id) same,
          subst (λ (y : JobSeen). y.faults ≤ job.faults now) same later,
        );
  }

  -- ---- a mode that stopped

  take_all_by : (P : Mode → Type 0) (n : ℕ) (ms : List Mode) → AllByRecursion P ms → AllByRecursion P (take n ms)
  take_all_by P zero ms all = tt
  take_all_by P (suc n) [] all = tt
  take_all_by P (suc n) (m ∷ ms) all = (all.0, take_all_by P n ms all.1)

  all_at : (P : Mode → Type 0) (ms : List Mode) (j : ℕ) (m : Mode) → AllByRecursion P ms → slice_get ms j ≡ Some m → P m
  all_at P [] j m all at = absurd (let bad : ◌≡◌ {A = Option Mode} None (Some m) = at in cc)
  all_at P (x ∷ ms) zero m all at = let is : Some x ≡ Some m = at in let same : x ≡ m = cc in subst P same all.0
  all_at P (x ∷ ms) (suc j) m all at = all_at P ms j m all.1 at

  -- a gate that failed in a mode failed since the first
  gate_rose_since : (ms : List Mode) (tasks : List Task) (old between new : Crew) (q : ℕ) → q < 32 → IsStaffed old → RanThrough ms old between
      → GateRose (loaded_crew [] 1 tasks between) new q → GateRose old new q
  gate_rose_since ms tasks old between new q within staffed ran rose =
      let (g, h, at, there, more) = rose in
      let (first, begun) = staffed.gates q within in
      let same = same_seen (slice_get between.gates q) g _ at (ran.gates q first begun) in
      let kept : g.faults ≡ first.faults = ap (λ (x : GateSeen). x.faults) same in
      (first, h, begun, there, subst (λ n. Rose n h.faults) kept more)

  job_rose_since : (ms : List Mode) (tasks : List Task) (old between new : Crew) (t : ℕ) → t < 256 → IsStaffed old → RanThrough ms old between
      → JobRose (loaded_crew [] 1 tasks between) new t → JobRose old new t
  job_rose_since ms tasks old between new t within staffed ran rose =
      let (j, k, at, there, more) = rose in
      let (i, held, kept) = unloaded 1 [] tasks between.jobs t j at in
      let (first, begun, own) = staffed.jobs t within in
      let (l, here, own', used, same, made) = ran.jobs t first begun in
      let one = same_seen (slice_get between.jobs t) i l held here in
      let count : j.faults ≡ first.faults = kept ∙ ap (λ (x : JobSeen). x.faults) one ∙ same in
      (first, k, begun, there, subst (λ n. Rose n k.faults) count more)

  -- what is known of a mode in which a gate or a job failed at this row
  pub record FailedAt (ms : List Mode) (j : ℕ) (old new : Crew) (row : Row) (refusal : Option (List ℕ) → ModeRefusal) : Type 0 where
    pub mode : Mode
    pub at : slice_get ms j ≡ Some mode
    pub named : NamesOneOf mode.plan.set.tasks row.leaf
    pub stops : (name : Option (List ℕ)) → name ≡ name_at mode.plan.set.tasks row.leaf → StopsInMode ms j old new (refusal name)

  module _ (ms : List Mode) (each : AllByRecursion (λ m. IsPlan m.plan) ms) (old new : CrewHeld G J) (staffed : IsStaffed (crew_at old)) (j : ℕ) where
    pub gate_failed : (q n : ℕ) (row : Row) → StopsIn gate job ms usual_window j (exec.Gate q row n) old new
        → FailedAt ms j (crew_at old) (crew_at new) row (λ name. mode.GateFault row name)
    gate_failed q n row stops =
        let p = stops.mode.plan in
        let h = all_at (λ m. IsPlan m.plan) ms j stops.mode each stops.at in
        let (before, still) = through (take j ms) usual_window stops.runs old stops.between (take_all_by (λ m. IsPlan m.plan) j ms each) staffed stops.whole in
        let ran = stops.stopped in
        let begun = ran.begun in
        let o = ran.outcome in
        let full = filled p h stops.between begun ran.begins still in
        let new_jobs = fresh p h stops.between begun ran.begins still in
        let here : GateStopped p usual_window (crew_at begun) (crew_at new) row =
        gate_stopped gate.ran gate.faults job.id job.used job.made job.faults p usual_window h begun.kits new.kits begun.places new.places
        full new_jobs (names p h) o.0 o.1 q row o.2.0 o.2.1 in
        let stopped : GateStopped p usual_window (loaded_crew [] 1 p.set.tasks (crew_at stops.between)) (crew_at new) row =
        subst (λ (c : Crew). GateStopped p usual_window c (crew_at new) row) (begun_is p h stops.between begun ran.begins still) here in
        let below = gate_below gate.ran gate.faults job.id job.used job.made job.faults p usual_window h begun.kits new.kits begun.places new.places
        full new_jobs (names p h) o.0 o.1 q row o.2.0 in
        let few = h.sized.few_processors in
        let within : row.processor < 32 = omega (arith, below, few) in
        record {
          mode = stops.mode;
          at = stops.at;
          named = gate_names gate.ran gate.faults job.id job.used job.made job.faults p usual_window h begun.kits new.kits begun.places new.places
              full new_jobs (names p h) o.0 o.1 q row o.2.0;
          stops = λ name is. record {
            mode = stops.mode;
            at = stops.at;
            between = crew_at stops.between;
            before = before;
            stopped = (stopped, is);
            rose = gate_rose_since (take j ms) p.set.tasks (crew_at old) (crew_at stops.between) (crew_at new) row.processor within staffed before stopped.rose;
          };
        }

    pub job_failed : (t q n : ℕ) (row : Row) → StopsIn gate job ms usual_window j (exec.Job t q row n) old new
        → FailedAt ms j (crew_at old) (crew_at new) row (λ name. mode.JobFault row name)
    job_failed t q n row stops =
        let p = stops.mode.plan in
        let h = all_at (λ m. IsPlan m.plan) ms j stops.mode each stops.at in
        let (before, still) = through (take j ms) usual_window stops.runs old stops.between (take_all_by (λ m. IsPlan m.plan) j ms each) staffed stops.whole in
        let ran = stops.stopped in
        let begun = ran.begun in
        let o = ran.outcome in
        let full = filled p h stops.between begun ran.begins still in
        let new_jobs = fresh p h stops.between begun ran.begins still in
        let here : JobStopped p usual_window (crew_at begun) (crew_at new) row =
        job_stopped gate.ran gate.faults job.id job.used job.made job.faults p usual_window h begun.kits new.kits begun.places new.places
        full new_jobs (names p h) o.0 o.1 q t o.2.1.0 row o.2.1.1 o.2.0 o.2.2 in
        let stopped : JobStopped p usual_window (loaded_crew [] 1 p.set.tasks (crew_at stops.between)) (crew_at new) row =
        subst (λ (c : Crew). JobStopped p usual_window c (crew_at new) row) (begun_is p h stops.between begun ran.begins still) here in
        let named = job_names gate.ran gate.faults job.id job.used job.made job.faults p usual_window h begun.kits new.kits begun.places new.places
        full new_jobs (names p h) o.0 o.1 q t o.2.1.0 row o.2.1.1 in
        let (task, leaf, rose) = stopped.task in
        let among : task.0 < length p.set.tasks = subst (λ (l : Leaf). NamesOneOf p.set.tasks l) leaf named in
        let few = h.lawful.few_tasks in
        let within : task.0 < 256 = omega (arith, among, few) in
        record {
          mode = stops.mode;
          at = stops.at;
          named = named;
          stops = λ name is. record {
            mode = stops.mode;
            at = stops.at;
            between = crew_at stops.between;
            before = before;
            stopped = (stopped, is);
            rose = (task, leaf, job_rose_since (take j ms) p.set.tasks (crew_at old) (crew_at stops.between) (crew_at new) task.0 within staffed before rose);
          };
        }

    -- memory was refused for a mode, whose tasks' jobs had begun anew
    pub stopped_between : StopsIn gate job ms usual_window j exec.NoMemory old new → StopsBetween ms (crew_at old) (crew_at new)
    stopped_between stops =
        let p = stops.mode.plan in
        let h = all_at (λ m. IsPlan m.plan) ms j stops.mode each stops.at in
        let (before, still) = through (take j ms) usual_window stops.runs old stops.between (take_all_by (λ m. IsPlan m.plan) j ms each) staffed stops.whole in
        let ran = stops.stopped in
        let same : crew_at new ≡ crew_at ran.begun =
        (λ i. crew (gates_of gate.ran gate.faults (ran.outcome.0 i)) (jobs_of job.id job.used job.faults job.made (ran.outcome.1 i))) in
        record {
          number = j;
          mode = stops.mode;
          at = stops.at;
          between = crew_at stops.between;
          before = before;
          begun = same ∙ begun_is p h stops.between ran.begun ran.begins still;
        }

  -- each mode's tasks have jobs of their own
  pub own_jobs : (r : CrewHeld G J) (ms : List Mode) → AllByRecursion (λ m. IsPlan m.plan) ms → IsStaffed (crew_at r)
      → AllByRecursion (λ m. modes.HaveOwnJobs job.id (length m.plan.set.tasks) r.places) ms
  own_jobs r [] each staffed = tt
  own_jobs r (m ∷ ms) each staffed = (own, own_jobs r ms each.1 staffed)
    where
      own : modes.HaveOwnJobs job.id (length m.plan.set.tasks) r.places
      own t within =
          let few = each.0.lawful.few_tasks in
          let (j, at, mine) = staffed.jobs t (omega (arith, within, few)) in
          let (x, there, same) = job_in_place job.id job.used job.faults job.made r.places t j at in
          (x, there, ap (λ (y : JobSeen). y.id) same ∙ mine)

  -- ---- by what a run of modes answers

  module _ (ms : List Mode) (each : AllByRecursion (λ m. IsPlan m.plan) ms) (old new : CrewHeld G J) (ready : IsFreshCrew (crew_at old))
      (result : Result (List Executed) ModesFault) (o : ModesOutcome gate job ms usual_window old new result) where
    at_answer : (answer : Result (List Executed) ModesFault) → result ≡ answer → ModesOutcome gate job ms usual_window old new answer
    at_answer answer is = subst (λ x. ModesOutcome gate job ms usual_window old new x) is o

    staffed : IsStaffed (crew_at old)
    staffed = ready_staffed (crew_at old) ready

    pub ran_by : (runs : List Executed) → result ≡ Ok runs → RanThrough ms (crew_at old) (crew_at new)
    ran_by runs is = (through ms usual_window runs old new each staffed (at_answer (Ok runs) is)).0

    pub gate_by : (j q : ℕ) (row : Row) → result ≡ Err (fault.Gate j q row)
        → FailedAt ms j (crew_at old) (crew_at new) row (λ name. mode.GateFault row name)
    gate_by j q row is =
        let (posts, stops) = at_answer (Err (fault.Gate j q row)) is in
        gate_failed ms each old new staffed j q posts row stops

    pub job_by : (j t q : ℕ) (row : Row) → result ≡ Err (fault.Job j t q row)
        → FailedAt ms j (crew_at old) (crew_at new) row (λ name. mode.JobFault row name)
    job_by j t q row is =
        let (posts, stops) = at_answer (Err (fault.Job j t q row)) is in
        job_failed ms each old new staffed j t q posts row stops

    pub memory_by : result ≡ Err fault.NoMemory → (crew_at new ≡ crew_at old) ⊎ StopsBetween ms (crew_at old) (crew_at new)
    memory_by is = elim (at_answer (Err fault.NoMemory) is) [
      | inl same ↦ inl (ap (λ (r : CrewHeld G J). crew_at r) same)
      | inr between ↦ inr (stopped_between ms each old new staffed between.0 between.1)
    ]

-- the plans of modes are lawful
pub plans_lawful : (processors : ℕ) (ms : List Mode) → AllByRecursion (IsMode processors) ms → AllByRecursion (λ m. IsPlan m.plan) ms
plans_lawful processors [] each = tt
plans_lawful processors (m ∷ ms) each = (each.0.lawful, plans_lawful processors ms each.1)

-- the plan that was handed out is that of the mode
plan_at : (ms : List Mode) (j : ℕ) (m : Mode) (p : PlanContents) → slice_get ms j ≡ Some m
    → option_map (λ (x : Mode). x.plan) (slice_get ms j) ≡ Some p → m.plan ≡ p
plan_at ms j m p at is = let e : Some m.plan ≡ Some p = sym (ap (option_map (λ (x : Mode). x.plan)) at) ∙ is in cc

-- the set of the plan that was handed out is that of the mode
module _ (ms : List Mode) (j : ℕ) (m : Mode) (p : PlanContents) (s : SetContents) (leaf : Leaf) (at : slice_get ms j ≡ Some m)
    (is : option_map (λ (x : Mode). x.plan) (slice_get ms j) ≡ Some p) (same : s ≡ p.set) where
  set_at : s ≡ m.plan.set
  set_at = same ∙ ap (λ (x : PlanContents). x.set) (sym (plan_at ms j m p at is))

  pub names_one : NamesOneOf m.plan.set.tasks leaf → NamesOneOf s.tasks leaf
  names_one among = subst (λ (x : SetContents). NamesOneOf x.tasks leaf) (sym set_at) among

  pub name_of : (name : Option (List ℕ)) → name ≡ name_at s.tasks leaf → name ≡ name_at m.plan.set.tasks leaf
  name_of name named = named ∙ ap (λ (x : SetContents). name_at x.tasks leaf) set_at
