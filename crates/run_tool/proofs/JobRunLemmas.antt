-- How `jobs` ends, part by part: reading the text, loading the programs, running the schedule, and writing what was computed.
use Rattle.std.proofs.Common.{◌≡◌, ◌≢◌, inl, inr, ℕ, ◌+◌, ◌*◌, ◌/◌, ◌≤◌, ◌<◌, true, false, List, length, take, Option, Some, Ok, Err, refl, sym, ◌∙◌}
use Rattle.std.proofs.Common.{ap, subst, arith}
use Rattle.std.proofs.lemmas.List.{take_all}
use Rattle.std.specs.Io.KnownBytes.{Appends, Keeps}
use Rattle.sched_base.specs.Sets.{SetContents}
use Rattle.sched_base.specs.Tables.{row_limit}
use Rattle.sched_edges.specs.Causes.{Rose}
use Rattle.sched_edges.specs.Streams.{GaveAll, GaveAtMost, GaveCount, TookPart}
use Rattle.sched_edges.specs.declared.read.TakeFault.{TakeFault}
use Rattle.sched_edges.specs.declared.read.TakeFault.TheVariants as take_fault
use Rattle.run_tree.specs.Compiled.{tree_of}
use Rattle.run_tree.specs.Plans.{PlanContents, rounds_of}
use Rattle.task_reader.specs.Reading.{set_read_from}
use Rattle.task_reader.specs.declared.refusals.ReadSet.{ReadSet}
use Rattle.task_reader.specs.declared.refusals.ReadSet.TheVariants as set
use Rattle.job_vm.specs.declared.faults.JobTextFault.{JobTextFault}
use Rattle.job_vm.specs.declared.faults.JobTextFault.TheVariants as job_text
use Rattle.job_vm.specs.Faults.{NamesBadLine}
use Rattle.job_vm.specs.Programs.{JobTextHeld, reading}
use Rattle.job_vm.specs.Loading.{loaded}
use Rattle.job_vm.specs.Results.{told_at, jobs_text}
use Rattle.command_words.specs.declared.command.Execution.TheVariants.{Jobs}
use Rattle.pure_commands.specs.declared.refusal.Refusal.{Refusal}
use Rattle.pure_commands.specs.declared.refusal.Refusal.TheVariants as why
use Rattle.exit_status.specs.declared.Status.TheVariants.{Done}
use Rattle.pure_commands.specs.Commands.{set_limit, schedule_rows, plan_of, rows_of, HasRoom}
use Rattle.event_core.specs.declared.counts.CountFault.{CountFault}
use Rattle.event_core.specs.declared.counts.CountFault.TheVariants as count_fault
use Rattle.event_core.specs.Counts.{IsCountFault}
use Rattle.pure_commands.specs.Faults.{of_take, of_read_set, of_read_jobs, of_count}
use Rattle.pure_commands.specs.Input.{IsSchedulable, IsRefusedSet}
use Rattle.pure_commands.proofs.EndLemmas.{keeps_same}
use Rattle.run_tool.specs.JobPrograms.{ReadsJobs, IsJobsToRun, set_bytes, result_text}
use Rattle.pure_commands.specs.Ends.{Streams}
use Rattle.run_tool.specs.Executions.{GateSeen, JobSeen, Crew, IsFreshCrew, RanAll, usual_window}
use Rattle.run_tool.proofs.CrewMade.{crew}
use Rattle.run_tool.proofs.LoadedLemmas.{results_are}
use Rattle.run_tool.specs.Executed.{StopsInRun, ToldRun, StopsRun, may_have_run}
use Rattle.run_tool.specs.Executions.{loaded_crew}
use Rattle.pure_commands.specs.Refusals.{status_of}
use Rattle.command_words.specs.declared.command.Command.TheVariants.{Execute}
use Rattle.run_tool.specs.JobInput.{GaveJobs, GaveNoJobs, RanJobs, StopsAtJobs}

-- ---- reading the text

-- where the source wasn't read to its end, no job text was read
pub untaken_jobs : (left left' : Option (List ℕ)) (limit faults faults' : ℕ) (e : TakeFault)
    → ((count : ℕ) → e ≡ take_fault.TooLong count → (count ≡ limit + 1) × GaveCount left left' count)
    → (e ≡ take_fault.Read → Rose faults faults') → (e ≡ take_fault.Read → GaveAtMost left left' limit)
    → GaveNoJobs left left' faults faults' limit (of_take e)
untaken_jobs left left' limit faults faults' take_fault.Read long read few = (read refl, few refl)
untaken_jobs left left' limit faults faults' (take_fault.TooLong count) long read few = long count refl
untaken_jobs left left' limit faults faults' take_fault.NoMemory long read few = tt

-- bytes that were read and are no job text
pub unread_jobs : (left left' : Option (List ℕ)) (limit faults faults' : ℕ) (bytes : List ℕ) (e : JobTextFault) → GaveAll left left' limit bytes
    → NamesBadLine (reading bytes) e → GaveNoJobs left left' faults faults' limit (of_read_jobs e)
unread_jobs left left' limit faults faults' bytes (job_text.BadProgram line) all stops = (bytes, all, inl stops)
unread_jobs left left' limit faults faults' bytes job_text.NoMemory all stops = tt

-- a job text with no set behind it
pub unread_job_set : (left left' : Option (List ℕ)) (limit faults faults' : ℕ) (bytes : List ℕ) (t : JobTextHeld) (e : ReadSet) → GaveAll left left' limit bytes
    → reading bytes ≡ Ok t → (e ≢ set.NoMemory → set_read_from (set_bytes t bytes) ≡ Err e) → GaveNoJobs left left' faults faults' limit (of_read_set e)
unread_job_set left left' limit faults faults' bytes t set.NoMemory all read is = tt
unread_job_set left left' limit faults faults' bytes t set.NotToml all read is = (bytes, all, (t, read, is (λ e. cc)))
unread_job_set left left' limit faults faults' bytes t (set.UnknownKey p k) all read is = (bytes, all, (t, read, is (λ e. cc)))
unread_job_set left left' limit faults faults' bytes t (set.Missing p k) all read is = (bytes, all, (t, read, is (λ e. cc)))
unread_job_set left left' limit faults faults' bytes t (set.WrongKind p k) all read is = (bytes, all, (t, read, is (λ e. cc)))
unread_job_set left left' limit faults faults' bytes t (set.BadProcessors v) all read is = (bytes, all, (t, read, is (λ e. cc)))
unread_job_set left left' limit faults faults' bytes t (set.BadHorizon v) all read is = (bytes, all, (t, read, is (λ e. cc)))
unread_job_set left left' limit faults faults' bytes t (set.TooManyTasks n) all read is = (bytes, all, (t, read, is (λ e. cc)))
unread_job_set left left' limit faults faults' bytes t (set.BadName i) all read is = (bytes, all, (t, read, is (λ e. cc)))
unread_job_set left left' limit faults faults' bytes t (set.SameName i) all read is = (bytes, all, (t, read, is (λ e. cc)))
unread_job_set left left' limit faults faults' bytes t (set.BadPeriod i) all read is = (bytes, all, (t, read, is (λ e. cc)))
unread_job_set left left' limit faults faults' bytes t (set.BadWork i) all read is = (bytes, all, (t, read, is (λ e. cc)))
unread_job_set left left' limit faults faults' bytes t (set.BadOffset i) all read is = (bytes, all, (t, read, is (λ e. cc)))

-- ---- running and writing

-- a set that is refused leaves gates and jobs as they were
pub refused_stops : (text : JobTextHeld) (out : Option (List ℕ)) (faults : ℕ) (c : Crew) (s : SetContents) (r : Refusal) → IsRefusedSet s r
    → StopsAtJobs text out out faults faults c c s r
refused_stops text out faults c s (why.ScaleTooLarge task) refused = (refused, keeps_same out)
refused_stops text out faults c s (why.Overload total room) refused = (refused, keeps_same out)
refused_stops text out faults c s why.NoMemory refused = (inl refl, keeps_same out)
refused_stops text out faults c s _ refused = absurd refused

-- memory was refused while programs were loaded
pub loading_stops : (text : JobTextHeld) (out : Option (List ℕ)) (faults scale n : ℕ) (old new : Crew) (s : SetContents) → IsSchedulable s scale
    → new ≡ loaded_crew text.programs scale (take n s.tasks) old → StopsAtJobs text out out faults faults old new s why.NoMemory
loading_stops text out faults scale n old new s run is = (inr (scale, n, run, is), keeps_same out)

-- where a gate or a job failed, or memory was refused, something may have been done
pub jobs_called : {P : Type 0} (p : PlanContents) (old new : Crew) (r : Refusal) → StopsInRun p usual_window old new r → may_have_run (Some (Execute Jobs))
    (status_of r) ≡ false → P
jobs_called p old new (why.GateFault row name) stops quiet = absurd (let bad : true ≡ false = quiet in cc)
jobs_called p old new (why.JobFault row name) stops quiet = absurd (let bad : true ≡ false = quiet in cc)
jobs_called p old new why.NoMemory stops quiet = absurd (let bad : true ≡ false = quiet in cc)
jobs_called p old new _ stops quiet = absurd stops

module _ (text : JobTextHeld) (s : SetContents) (p : PlanContents) (is_set : p.set ≡ s) (tree : p.tree ≡ tree_of p.tree.scale s) where
  same : p ≡ plan_of s p.tree.scale
  same = λ i. record { set = is_set i; tree = tree i }

  pub room : (n : ℕ) → n ≡ rounds_of p → n * p.tree.processors ≤ row_limit → rows_of (plan_of s p.tree.scale) ≤ row_limit
  room count is few = subst (λ (q : PlanContents). rows_of q ≤ row_limit) same (subst (λ n. n * p.tree.processors ≤ row_limit) is few)

  -- the schedule is too long, or memory was refused
  pub count_stops : (out : Option (List ℕ)) (faults : ℕ) (c : Crew) (f : CountFault) → IsSchedulable s p.tree.scale → IsCountFault p f
      → StopsAtJobs text out out faults faults c c s (of_count f)
  count_stops out faults c (count_fault.TooLong rows) run is = (
    (
      p.tree.scale,
      run,
      (
        subst (λ (q : PlanContents). row_limit < rows_of q) same is.0,
        subst (λ (q : PlanContents). rows ≡ (row_limit / q.tree.processors + 1) * q.tree.processors) same is.1,
      ),
    ),
    keeps_same out,
  )
  count_stops out faults c count_fault.NoMemory run is = (inl refl, keeps_same out)

  -- a gate or a job failed, or memory was refused once all programs were loaded
  pub running_stops : (out : Option (List ℕ)) (faults count : ℕ) (old held new : Crew) (r : Refusal) → IsSchedulable s p.tree.scale → count ≡ rounds_of p
      → count * p.tree.processors ≤ row_limit → held ≡ loaded_crew text.programs p.tree.scale s.tasks old → StopsInRun p usual_window held new r
      → (r ≡ why.NoMemory → new ≡ held) → StopsAtJobs text out out faults faults old new s r
  running_stops out faults count old held new (why.GateFault row name) run is few held_is stops left = (
    p.tree.scale,
    run,
    room count is few,
    subst (λ (q : PlanContents). StopsInRun q usual_window (loaded_crew text.programs p.tree.scale s.tasks old) new (why.GateFault row name)) same
        (subst (λ (x : Crew). StopsInRun p usual_window x new (why.GateFault row name)) held_is stops),
    keeps_same out,
  )
  running_stops out faults count old held new (why.JobFault row name) run is few held_is stops left = (
    p.tree.scale,
    run,
    room count is few,
    subst (λ (q : PlanContents). StopsInRun q usual_window (loaded_crew text.programs p.tree.scale s.tasks old) new (why.JobFault row name)) same
        (subst (λ (x : Crew). StopsInRun p usual_window x new (why.JobFault row name)) held_is stops),
    keeps_same out,
  )
  running_stops out faults count old held new why.NoMemory run is few held_is stops left =
      loading_stops text out faults p.tree.scale (length s.tasks) old new s run
      (left refl ∙ held_is ∙ ap (λ tasks. loaded_crew text.programs p.tree.scale tasks old) (sym (take_all (length s.tasks) s.tasks (omega arith))))
  running_stops out faults count old held new _ run is few held_is stops left = absurd stops

  -- the places hold the jobs with their programs
  pub loaded_is : (gates : List (Option GateSeen)) (was now : List (Option JobSeen)) (scale : ℕ) (set : SetContents) → scale ≡ p.tree.scale → set ≡ p.set
      → now ≡ loaded scale text.programs set.tasks was → crew gates now ≡ loaded_crew text.programs p.tree.scale s.tasks (crew gates was)
  loaded_is gates was now scale set scale_is set_is now_is =
      ap (crew gates) (now_is ∙ (λ i. loaded (scale_is i) text.programs ((set_is ∙ is_set) i).tasks was))

  -- the same where only the programs of the first tasks were loaded
  pub loaded_part : (gates : List (Option GateSeen)) (was now : List (Option JobSeen)) (scale n : ℕ) (set : SetContents) → scale ≡ p.tree.scale → set ≡ p.set
      → now ≡ loaded scale text.programs (take n set.tasks) was → crew gates now ≡ loaded_crew text.programs p.tree.scale (take n s.tasks) (crew gates was)
  loaded_part gates was now scale n set scale_is set_is now_is =
      ap (crew gates) (now_is ∙ (λ i. loaded (scale_is i) text.programs (take n ((set_is ∙ is_set) i).tasks) was))

  -- what is written is the text of the results
  told_are : (old new : Crew) (scale : ℕ) (set : SetContents) → scale ≡ p.tree.scale → set ≡ p.set → length s.tasks ≤ 256 → IsFreshCrew old
      → RanAll p (loaded_crew text.programs p.tree.scale s.tasks old) new → jobs_text (told_at scale new.jobs) set.tasks ≡ result_text text
      (plan_of s p.tree.scale) old.jobs
  told_are old new scale set scale_is set_is few ready ran =
      (λ i. jobs_text (told_at (scale_is i) new.jobs) (set_is i).tasks)
      ∙ (results_are text p old new (subst (λ (x : SetContents). length x.tasks ≤ 256) (sym is_set) few) ready
      (subst (λ (x : SetContents). RanAll p (loaded_crew text.programs p.tree.scale x.tasks old) new) (sym is_set) ran)
      ∙ ap (λ (q : PlanContents). result_text text q old.jobs) same)

  -- all was run and written
  pub jobs_ran : (out out' : Option (List ℕ)) (count : ℕ) (old held new : Crew) (scale : ℕ) (set : SetContents) → IsSchedulable s p.tree.scale →
      count ≡ rounds_of p
      → count * p.tree.processors ≤ row_limit → scale ≡ p.tree.scale → set ≡ p.set → length s.tasks ≤ 256 → IsFreshCrew old
      → held ≡ loaded_crew text.programs p.tree.scale s.tasks old → RanAll p held new
      → Appends out out' (jobs_text (told_at scale new.jobs) set.tasks) → RanJobs text out out' old new s
  jobs_ran out out' count old held new scale set run is few scale_is set_is count_few ready held_is ran took =
      let all = subst (λ (x : Crew). RanAll p x new) held_is ran in (
        p.tree.scale,
        run,
        room count is few,
        subst (λ (t : List ℕ). Appends out out' t) (told_are old new scale set scale_is set_is count_few ready all) took,
        subst (λ (q : PlanContents). RanAll q (loaded_crew text.programs p.tree.scale s.tasks old) new) same all,
      )

  -- all was run, and not all was written
  pub jobs_unwritten : (out out' : Option (List ℕ)) (faults faults' count : ℕ) (old held new : Crew) (scale : ℕ) (set : SetContents) →
      IsSchedulable s p.tree.scale
      → count ≡ rounds_of p → count * p.tree.processors ≤ row_limit → scale ≡ p.tree.scale → set ≡ p.set → length s.tasks ≤ 256 → IsFreshCrew old
      → held ≡ loaded_crew text.programs p.tree.scale s.tasks old → RanAll p held new
      → TookPart out out' (jobs_text (told_at scale new.jobs) set.tasks) → Rose faults faults' → StopsAtJobs text out out' faults faults' old new s
      why.WriteFault
  jobs_unwritten out out' faults faults' count old held new scale set run is few scale_is set_is count_few ready held_is ran took rose =
      let all = subst (λ (x : Crew). RanAll p x new) held_is ran in (
        p.tree.scale,
        run,
        room count is few,
        subst (λ (t : List ℕ). TookPart out out' t) (told_are old new scale set scale_is set_is count_few ready all) took,
        rose,
        subst (λ (q : PlanContents). RanAll q (loaded_crew text.programs p.tree.scale s.tasks old) new) same all,
      )

-- ---- the whole

-- a job text that was read is one to run
to_run : (bytes : List ℕ) (text : JobTextHeld) (s : SetContents) (scale : ℕ) → ReadsJobs bytes text s → IsSchedulable s scale →
    HasRoom (schedule_rows false) s scale
    → IsJobsToRun bytes text s scale
to_run bytes text s scale reads run room =
    record { reads = reads; scaled = record { read = reads.set; is_scale = run.is_scale; within = run.within }; fits = run.fits; room = room }

pub jobs_done : (old new : Streams) (b n : Crew) (text : JobTextHeld) (s : SetContents) → GaveJobs old.left new.left set_limit text s
    → RanJobs text old.out new.out b n s → ToldRun Jobs old new b n
jobs_done old new b n text s gave ran =
    let (bytes, all, reads) = gave.gave in
    let (scale, run, room, took, rows) = ran in
    record {
      told = (bytes, result_text text (plan_of s scale) b.jobs, all, (refl, (text, s, scale, to_run bytes text s scale reads run room, refl, rows)), took);
    }

pub jobs_stopped : (old new : Streams) (b n : Crew) (text : JobTextHeld) (s : SetContents) (r : Refusal) → GaveJobs old.left new.left set_limit text s
    → StopsAtJobs text old.out new.out old.out_faults new.out_faults b n s r → StopsRun Jobs old new b n r
jobs_stopped old new b n text s why.WriteFault gave stops =
    let (bytes, all, reads) = gave.gave in
    let (scale, run, room, took, rose, rows) = stops in (
      (
        bytes,
        result_text text (plan_of s scale) b.jobs,
        Done,
        all,
        (refl, (text, s, scale, to_run bytes text s scale reads run room, refl, rows)),
        took,
        rose,
      ),
      tt,
    )
jobs_stopped old new b n text s (why.GateFault row name) gave stops =
    let (bytes, all, reads) = gave.gave in
    let (scale, run, room, stopped, keeps) = stops in
    ((bytes, all, (text, s, scale, to_run bytes text s scale reads run room, stopped), keeps), tt)
jobs_stopped old new b n text s (why.JobFault row name) gave stops =
    let (bytes, all, reads) = gave.gave in
    let (scale, run, room, stopped, keeps) = stops in
    ((bytes, all, (text, s, scale, to_run bytes text s scale reads run room, stopped), keeps), tt)
jobs_stopped old new b n text s (why.TooLong rows) gave stops =
    let (bytes, all, reads) = gave.gave in
    ((bytes, all, (text, s, reads, (s, reads.set, stops.0)), stops.1), tt)
jobs_stopped old new b n text s (why.ScaleTooLarge task) gave stops =
    let (bytes, all, reads) = gave.gave in
    ((bytes, all, (text, s, reads, (s, reads.set, stops.0)), stops.1), tt)
jobs_stopped old new b n text s (why.Overload total room) gave stops =
    let (bytes, all, reads) = gave.gave in
    ((bytes, all, (text, s, reads, (s, reads.set, stops.0)), stops.1), tt)
jobs_stopped old new b n text s why.NoMemory gave (inl same, keeps) = (keeps, inl same)
jobs_stopped old new b n text s why.NoMemory gave (inr loaded, keeps) =
    let (bytes, all, reads) = gave.gave in
    (keeps, inr (bytes, text, s, all, reads, loaded))
jobs_stopped old new b n text s _ gave stops = absurd stops.0

pub jobs_unread : (old new : Streams) (b n : Crew) (r : Refusal) → GaveNoJobs old.left new.left old.read_faults new.read_faults set_limit r
    → Keeps old.out new.out → n ≡ b → StopsRun Jobs old new b n r
jobs_unread old new b n why.ReadFault gave keeps kept = ((gave.0, gave.1, keeps), tt)
jobs_unread old new b n why.NoMemory gave keeps kept = (keeps, inl kept)
jobs_unread old new b n (why.InputTooLong count) gave keeps kept = ((gave.0, gave.1, keeps), tt)
jobs_unread old new b n (why.BadProgram line) gave keeps kept = ((gave.0, gave.1, gave.2, keeps), tt)
jobs_unread old new b n (why.BadSet q) gave keeps kept = ((gave.0, gave.1, gave.2, keeps), tt)
jobs_unread old new b n _ gave keeps kept = absurd gave
