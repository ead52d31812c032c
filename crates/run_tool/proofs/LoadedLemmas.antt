-- Gates and jobs whose programs were loaded, and what is told of them after a run.
use Rattle.std.proofs.Common.{ℕ, zero, suc, ◌+◌, ◌/◌, ◌<◌, ◌≤◌, ◌≡◌, List, [], ◌∷◌, ◌++◌, length, Option, Some, None, option_map, refl, sym, ap, ◌∙◌}
use Rattle.std.proofs.Common.{subst, arith}
use Rattle.std.specs.Prelude.{codes, option_and_then, slice_get}
use Rattle.sched_edges.specs.Lines.{word_line}
use Rattle.std.specs.List.{flat_map, range_with_len}
use Rattle.sched_base.specs.declared.rows.Row.{Row}
use Rattle.exec_lanes.specs.declared.kits.Kit.{Kit}
use Rattle.sched_base.specs.declared.sets.Task.{Task}
use Rattle.sched_base.specs.Sets.{task_at}
use Rattle.sched_base.specs.Tables.{all_rows, ticks_in}
use Rattle.sched_edges.specs.Jobs.{JobAt, reloaded, computed}
use Rattle.exec_book.specs.Jobs.{Made}
use Rattle.run_tree.specs.Plans.{PlanContents}
use Rattle.plan_rounds.specs.PlanRows.{plan_rows}
use Rattle.job_vm.specs.Programs.{Program, JobTextHeld}
use Rattle.job_vm.specs.Loading.{code_of, anew, loaded}
use Rattle.job_vm.specs.Results.{Told, told_at, told_of, job_line, jobs_text}
use Rattle.job_vm.proofs.ResultsLemmas.{jobs_text_is}
use Rattle.run_tool.specs.JobPrograms.{told_of_task, result_text}
use Rattle.run_tool.specs.Executions.{GateSeen, JobSeen, Crew, gates_of, jobs_of, Holds, IsFreshCrew, AreBack, RanAll, JobRose}
use Rattle.run_tool.proofs.CrewMade.{crew}
use Rattle.run_tool.proofs.CrewLemmas.{job_in_place}
use Rattle.run_tool.specs.Executions.{loaded_crew}

-- a job whose program was loaded is the one that it was
pub record IsSameJob (old new : JobSeen) : Type 0 where
  pub id : new.id ≡ old.id
  pub faults : new.faults ≡ old.faults
  pub unused : old.used ≡ 0 → new.used ≡ 0

same_job : (j : JobSeen) → IsSameJob j j
same_job j = record { id = refl; faults = refl; unused = λ none. none }

pub loaded_held : (scale : ℕ) (programs : List Program) (tasks : List Task) (jobs : List (Option JobSeen)) (i : ℕ) (j : JobSeen) → Holds jobs i j
    → (k : JobSeen) × Holds (loaded scale programs tasks jobs) i k × IsSameJob j k
loaded_held scale programs [] jobs i j at = (j, at, same_job j)
loaded_held scale programs (t ∷ tasks) [] i j at = absurd (let bad : ◌≡◌ {A = Option (Option JobSeen)} None (Some (Some j)) = at in cc)
loaded_held scale programs (t ∷ tasks) (place ∷ jobs) zero j at =
    let here : place ≡ Some j = cc in (
      anew scale (code_of programs t.name) j,
      ap (λ (o : Option JobSeen). Some (option_map (anew scale (code_of programs t.name)) o)) here,
      record { id = refl; faults = refl; unused = λ none. refl },
    )
loaded_held scale programs (t ∷ tasks) (place ∷ jobs) (suc i) j at = loaded_held scale programs tasks jobs i j at

-- the job of a task begins anew
pub loaded_at : (scale : ℕ) (programs : List Program) (tasks : List Task) (jobs : List (Option JobSeen)) (i : ℕ) (j : JobSeen) → i < length tasks →
    Holds jobs i j
    → Holds (loaded scale programs tasks jobs) i (anew scale (code_of programs (task_at tasks i).name) j)
loaded_at scale programs [] jobs i j within at = absurd (omega arith)
loaded_at scale programs (t ∷ tasks) [] i j within at = absurd (let bad : ◌≡◌ {A = Option (Option JobSeen)} None (Some (Some j)) = at in cc)
loaded_at scale programs (t ∷ tasks) (place ∷ jobs) zero j within at =
    let here : place ≡ Some j = cc in
    ap (λ (o : Option JobSeen). Some (option_map (anew scale (code_of programs t.name)) o)) here
loaded_at scale programs (t ∷ tasks) (place ∷ jobs) (suc i) j within at = loaded_at scale programs tasks jobs i j (omega arith) at

-- and each job was there before
pub unloaded : (scale : ℕ) (programs : List Program) (tasks : List Task) (jobs : List (Option JobSeen)) (i : ℕ) (k : JobSeen) →
    Holds (loaded scale programs tasks jobs) i k
    → (j : JobSeen) × Holds jobs i j × (k.faults ≡ j.faults)
unloaded scale programs [] jobs i k at = (k, at, refl)
unloaded scale programs (t ∷ tasks) [] i k at = absurd (let bad : ◌≡◌ {A = Option (Option JobSeen)} None (Some (Some k)) = at in cc)
unloaded scale programs (t ∷ tasks) (None ∷ jobs) zero k at = absurd (let bad : ◌≡◌ {A = Option (Option JobSeen)} (Some None) (Some (Some k)) = at in cc)
unloaded scale programs (t ∷ tasks) (Some j ∷ jobs) zero k at =
    let is : ◌≡◌ {A = Option (Option JobSeen)} (Some (Some (anew scale (code_of programs t.name) j))) (Some (Some k)) = at in
    let same : anew scale (code_of programs t.name) j ≡ k = cc in
    (j, refl, sym (ap (λ (x : JobSeen). x.faults) same))
unloaded scale programs (t ∷ tasks) (place ∷ jobs) (suc i) k at = unloaded scale programs tasks jobs i k at

length-loaded : (scale : ℕ) (programs : List Program) (tasks : List Task) (jobs : List (Option JobSeen)) → length (loaded scale programs tasks jobs)
    ≡ length jobs
length-loaded scale programs [] jobs = refl
length-loaded scale programs (t ∷ tasks) [] = refl
length-loaded scale programs (t ∷ tasks) (job ∷ jobs) = ap suc (length-loaded scale programs tasks jobs)

-- all is ready once the programs are loaded
pub ready_loaded : (text : JobTextHeld) (scale : ℕ) (tasks : List Task) (c : Crew) → IsFreshCrew c → IsFreshCrew (loaded_crew text.programs scale tasks c)
ready_loaded text scale tasks c ready = record {
  gates = ready.gates;
  count = length-loaded scale text.programs tasks c.jobs ∙ ready.count;
  jobs = λ i within.
      let (j, at, own, none) = ready.jobs i within in
      let (k, there, same) = loaded_held scale text.programs tasks c.jobs i j at in
      (k, there, same.id ∙ own, same.unused none);
}

-- what is back after a run is back after the loading too
pub back_loaded : (text : JobTextHeld) (scale : ℕ) (tasks : List Task) (c now : Crew) → AreBack (loaded_crew text.programs scale tasks c) now → AreBack c now
back_loaded text scale tasks c now back = record {
  gates = back.gates;
  jobs = λ i j at.
      let (k, there, same) = loaded_held scale text.programs tasks c.jobs i j at in
      let (l, here, own, later) = back.jobs i k there in
      (l, here, own ∙ same.id, subst (λ n. n ≤ l.faults) same.faults later);
}

-- a loading alone leaves all in their places
pub back_alone : (text : JobTextHeld) (scale : ℕ) (tasks : List Task) (c : Crew) → AreBack c (loaded_crew text.programs scale tasks c)
back_alone text scale tasks c = record {
  gates = λ p g at. (g, at, omega arith);
  jobs = λ i j at.
      let (k, there, same) = loaded_held scale text.programs tasks c.jobs i j at in
      let count = same.faults in
      (k, there, same.id, omega (arith, count));
}

-- the same of the moment at which the programs are loaded
pub ready_at : (text : JobTextHeld) (scale : ℕ) (tasks : List Task) (old held : Crew) → held ≡ loaded_crew text.programs scale tasks old → IsFreshCrew old →
    IsFreshCrew held
ready_at text scale tasks old held is ready = subst (λ (x : Crew). IsFreshCrew x) (sym is) (ready_loaded text scale tasks old ready)

pub back_at : (text : JobTextHeld) (scale : ℕ) (tasks : List Task) (old new : Crew) → new ≡ loaded_crew text.programs scale tasks old → AreBack old new
back_at text scale tasks old new is = subst (λ (x : Crew). AreBack old x) (sym is) (back_alone text scale tasks old)

pub back_by_run : (text : JobTextHeld) (scale : ℕ) (tasks : List Task) (old held new : Crew) → held ≡ loaded_crew text.programs scale tasks old →
    AreBack held new → AreBack old new
back_by_run text scale tasks old held new is back = back_loaded text scale tasks old new (subst (λ (x : Crew). AreBack x new) is back)

-- kits and places that are as before show the same
pub crew_left : {G J : Type 0} (ran : G → Option (List Row)) (gate_faults : G → ℕ) (id used : J → ℕ) (made : J → Made) (job_faults : J → ℕ)
    (kits kits' : List (Kit G)) (places places' : List (Option J)) → (kits' ≡ kits) × (places' ≡ places)
    → crew (gates_of ran gate_faults kits') (jobs_of id used job_faults made places') ≡ crew (gates_of ran gate_faults kits) (jobs_of id used job_faults
    made places)
crew_left ran gate_faults id used made job_faults kits kits' places places' same =
    (λ i. crew (gates_of ran gate_faults (same.0 i)) (jobs_of id used job_faults made (same.1 i)))

-- a job that failed after the loading failed
pub rose_loaded : (text : JobTextHeld) (scale : ℕ) (tasks : List Task) (c now : Crew) (i : ℕ) → JobRose (loaded_crew text.programs scale tasks c) now i →
    JobRose c now i
rose_loaded text scale tasks c now i rose =
    let (k, l, at, here, more) = rose in
    let (j, there, same) = unloaded scale text.programs tasks c.jobs i k at in
    (j, l, there, here, rw (← same) more)

-- after a run there is a job in the place of each task
pub jobs_there : {J : Type 0} (id used faults : J → ℕ) (made : J → Made) (places : List (Option J)) (gates : List (Option GateSeen)) (old : Crew) →
    IsFreshCrew old
    → AreBack old (crew gates (jobs_of id used faults made places)) → (n : ℕ) → n ≤ 256 → (i : ℕ) → i < n → (job : J) × JobAt places i job
jobs_there id used faults made places gates old ready back n few i within =
    let (j, at, own, none) = ready.jobs i (omega (arith, few, within)) in
    let (k, there, same, later) = back.jobs i j at in
    let (job, here, is) = job_in_place id used faults made places i k there in
    (job, here)

-- ---- what is told after a run

-- a text of one part for each number goes by the parts alone
same_parts : (f g : ℕ → List ℕ) (start n : ℕ) → ((k : ℕ) → k < n → f (start + k) ≡ g (start + k)) → flat_map f (range_with_len start n) ≡ flat_map g
    (range_with_len start n)
same_parts f g start zero same = refl
same_parts f g start (suc n) same =
    let at : start + 0 ≡ start = omega arith in
    let first : f start ≡ g start = subst (λ k. f k ≡ g k) at (same 0 (omega arith)) in
    let rest = same_parts f g (start + 1) n (λ k within. let one : start + suc k ≡ start + 1 + k = omega arith in subst (λ m. f m ≡ g m) one
    (same (suc k) (omega (arith, within)))) in
    (λ i. first i ++ rest i)

pub same_results : (told told' : ℕ → Told) (tasks : List Task) → ((i : ℕ) → i < length tasks → told i ≡ told' i) → jobs_text told tasks ≡ jobs_text told' tasks
same_results told told' tasks same =
    let parts = same_parts (λ i. job_line (task_at tasks i).name (told i)) (λ i. job_line (task_at tasks i).name (told' i)) 0 (length tasks)
    (λ k within. let at : 0 + k ≡ k = omega arith in ap (job_line (task_at tasks (0 + k)).name) (same (0 + k) (omega (arith, within)))) in
    jobs_text_is told tasks ∙ (ap (λ (text : List ℕ). word_line (codes "run-jobs 1") ++ text) parts ∙ sym (jobs_text_is told' tasks))

-- a place that holds a job
told_held : (scale : ℕ) (jobs : List (Option JobSeen)) (i : ℕ) (j : JobSeen) → Holds jobs i j → told_at scale jobs i ≡ told_of scale j
told_held scale [] i j at = absurd (let bad : ◌≡◌ {A = Option (Option JobSeen)} None (Some (Some j)) = at in cc)
told_held scale (place ∷ jobs) zero j at =
    let here : place ≡ Some j = cc in
    ap (λ (p : Option JobSeen). told_at scale (p ∷ jobs) zero) here
told_held scale (place ∷ jobs) (suc i) j at = told_held scale jobs i j at

-- what the job in place i is made of, where it has a program
abbrev made_at : List (Option JobSeen) → ℕ → Made
made_at jobs i =
    option_and_then (λ (job : JobSeen). job.made) (option_and_then (λ (place : Option JobSeen). place) (slice_get jobs i))

made_held : (jobs : List (Option JobSeen)) (i : ℕ) (j : JobSeen) → Holds jobs i j → made_at jobs i ≡ j.made
made_held [] i j at = absurd (let bad : ◌≡◌ {A = Option (Option JobSeen)} None (Some (Some j)) = at in cc)
made_held (place ∷ jobs) zero j at =
    let here : place ≡ Some j = cc in
    ap (λ (p : Option JobSeen). made_at (p ∷ jobs) zero) here
made_held (place ∷ jobs) (suc i) j at = made_held jobs i j at

-- what is told of the job of task i
pub told_is : (text : JobTextHeld) (p : PlanContents) (old new : Crew) (i : ℕ) (j : JobSeen) → i < length p.set.tasks → Holds old.jobs i j
    → RanAll p (loaded_crew text.programs p.tree.scale p.set.tasks old) new → told_at p.tree.scale new.jobs i ≡ told_of_task text.programs p old.jobs i
told_is text p old new i j within at ran =
    let code = code_of text.programs (task_at p.set.tasks i).name in
    let after = ran.jobs i (anew p.tree.scale code j) (loaded_at p.tree.scale text.programs p.set.tasks old.jobs i j within at) in
    let ticks = ticks_in i (all_rows (plan_rows p)) in
    let used : 0 + ticks ≡ ticks = omega arith in
    let made : j.made ≡ made_at old.jobs i = sym (made_held old.jobs i j at) in
    told_held p.tree.scale new.jobs i (record (anew p.tree.scale code j) { used = 0 + ticks }) after
    ∙ (λ k. record { units = used k / p.tree.scale; numbers = computed (reloaded (made k) p.tree.scale code) (used k) })

-- what is written of the jobs after a run is what is told of the tasks
pub results_are : (text : JobTextHeld) (p : PlanContents) (old new : Crew) → length p.set.tasks ≤ 256 → IsFreshCrew old
    → RanAll p (loaded_crew text.programs p.tree.scale p.set.tasks old) new → jobs_text (told_at p.tree.scale new.jobs) p.set.tasks ≡ result_text text p
    old.jobs
results_are text p old new few ready ran =
    same_results (told_at p.tree.scale new.jobs) (told_of_task text.programs p old.jobs) p.set.tasks
    (λ i within. let (j, at, own, none) = ready.jobs i (omega (arith, few, within)) in told_is text p old new i j within at ran)
