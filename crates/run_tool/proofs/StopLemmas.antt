-- How `exec` ends, part by part: reading the set, running its schedule, and writing it.
use Rattle.std.proofs.Common.{◌≡◌, ℕ, ◌+◌, ◌*◌, ◌/◌, ◌≤◌, ◌<◌, Bool, List, Option, Ok, refl, subst}
use Rattle.std.specs.Io.KnownBytes.{Appends, Keeps}
use Rattle.sched_base.specs.Sets.{SetContents}
use Rattle.sched_base.specs.Tables.{row_limit}
use Rattle.sched_edges.specs.Causes.{Rose}
use Rattle.sched_edges.specs.Streams.{TookPart}
use Rattle.run_tree.specs.Compiled.{tree_of}
use Rattle.run_tree.specs.Plans.{PlanContents, rounds_of}
use Rattle.task_reader.specs.Reading.{set_read_from}
use Rattle.event_core.specs.declared.counts.CountFault.{CountFault}
use Rattle.event_core.specs.declared.counts.CountFault.TheVariants as count_fault
use Rattle.event_core.specs.Counts.{IsCountFault}
use Rattle.pure_commands.specs.declared.refusal.Refusal.{Refusal}
use Rattle.pure_commands.specs.declared.refusal.Refusal.TheVariants as why
use Rattle.exit_status.specs.declared.Status.TheVariants.{Done}
use Rattle.pure_commands.specs.Commands.{set_limit, schedule_rows, schedule_text, version_of, plan_of, rows_of, text_of, HasRoom}
use Rattle.pure_commands.specs.Ends.{Streams, IsTold, StopsAs}
use Rattle.pure_commands.specs.Faults.{of_count}
use Rattle.pure_commands.specs.Input.{GaveSet, GaveNoSet, IsSchedulable, IsRefusedSet, IsTooLongSet}
use Rattle.pure_commands.proofs.EndLemmas.{keeps_same}
use Rattle.run_tool.specs.Executions.{Crew, RanAll}
use Rattle.run_tool.specs.Commands.{IsToRun}
use Rattle.run_tool.specs.Executed.{WritesRun, RefusesRun, RanSet, StopsInRun, StopsAtRun}

-- ---- running and writing

-- a set that is refused leaves gates and jobs as they were
pub refused_run : (window : ℕ) (met : Bool) (out : Option (List ℕ)) (faults : ℕ) (c : Crew) (s : SetContents) (r : Refusal) → IsRefusedSet s r
    → StopsAtRun window met out out faults faults c c s r
refused_run window met out faults c s (why.ScaleTooLarge task) refused = (refused, keeps_same out)
refused_run window met out faults c s (why.Overload total room) refused = (refused, keeps_same out)
refused_run window met out faults c s why.NoMemory refused = (tt, keeps_same out)
refused_run window met out faults c s _ refused = absurd refused

module _ (s : SetContents) (p : PlanContents) (set : p.set ≡ s) (tree : p.tree ≡ tree_of p.tree.scale s) where
  pub same_plan : p ≡ plan_of s p.tree.scale
  same_plan = λ i. record { set = set i; tree = tree i }

  pub room : (count : ℕ) → count ≡ rounds_of p → count * p.tree.processors ≤ row_limit → rows_of (plan_of s p.tree.scale) ≤ row_limit
  room count is few = subst (λ (q : PlanContents). rows_of q ≤ row_limit) same_plan (subst (λ n. n * p.tree.processors ≤ row_limit) is few)

  -- the schedule has more rows than are told
  pub too_long : (met : Bool) (rows : ℕ) → IsSchedulable s p.tree.scale → IsCountFault p (count_fault.TooLong rows) → IsTooLongSet (schedule_rows met) s rows
  too_long met rows run is = (
    p.tree.scale,
    run,
    (
      subst (λ (q : PlanContents). row_limit < rows_of q) same_plan is.0,
      subst (λ (q : PlanContents). rows ≡ (row_limit / q.tree.processors + 1) * q.tree.processors) same_plan is.1,
    ),
  )

  pub uncounted : (window : ℕ) (met : Bool) (out : Option (List ℕ)) (faults : ℕ) (c : Crew) (f : CountFault) → IsSchedulable s p.tree.scale → IsCountFault p f
      → StopsAtRun window met out out faults faults c c s (of_count f)
  uncounted window met out faults c (count_fault.TooLong rows) run is = (too_long met rows run is, keeps_same out)
  uncounted window met out faults c count_fault.NoMemory run is = (tt, keeps_same out)

  pub run_stops : (window : ℕ) (met : Bool) (out : Option (List ℕ)) (faults count : ℕ) (old new : Crew) (r : Refusal) → IsSchedulable s p.tree.scale →
      count ≡ rounds_of p
      → count * p.tree.processors ≤ row_limit → StopsInRun p window old new r → StopsAtRun window met out out faults faults old new s r
  run_stops window met out faults count old new (why.GateFault row name) run is few stops =
      (p.tree.scale, run, room count is few, subst (λ (q : PlanContents). StopsInRun q window old new (why.GateFault row name)) same_plan stops, keeps_same out)
  run_stops window met out faults count old new (why.JobFault row name) run is few stops =
      (p.tree.scale, run, room count is few, subst (λ (q : PlanContents). StopsInRun q window old new (why.JobFault row name)) same_plan stops, keeps_same out)
  run_stops window met out faults count old new why.NoMemory run is few stops = (tt, keeps_same out)
  run_stops window met out faults count old new _ run is few stops = absurd stops

  -- all was run and written
  pub run_written : (met : Bool) (out out' : Option (List ℕ)) (count : ℕ) (old new : Crew) → IsSchedulable s p.tree.scale → count ≡ rounds_of p
      → count * p.tree.processors ≤ row_limit → RanAll p old new → Appends out out' (schedule_text (version_of met p.set.tasks) p) → RanSet met out out' old
      new s
  run_written met out out' count old new run is few ran took = (
    p.tree.scale,
    run,
    room count is few,
    subst (λ (q : PlanContents). Appends out out' (schedule_text (version_of met q.set.tasks) q)) same_plan took,
    subst (λ (q : PlanContents). RanAll q old new) same_plan ran,
  )

  -- all was run, and not all was written
  pub run_unwritten : (window : ℕ) (met : Bool) (out out' : Option (List ℕ)) (faults faults' count : ℕ) (old new : Crew) → IsSchedulable s p.tree.scale
      → count ≡ rounds_of p → count * p.tree.processors ≤ row_limit → RanAll p old new → TookPart out out' (schedule_text (version_of met p.set.tasks) p) →
      Rose faults faults'
      → StopsAtRun window met out out' faults faults' old new s why.WriteFault
  run_unwritten window met out out' faults faults' count old new run is few ran took rose = (
    p.tree.scale,
    run,
    room count is few,
    subst (λ (q : PlanContents). TookPart out out' (schedule_text (version_of met q.set.tasks) q)) same_plan took,
    rose,
    subst (λ (q : PlanContents). RanAll q old new) same_plan ran,
  )

-- ---- the whole

-- a set that was read is one to run
to_run : (met : Bool) (bytes : List ℕ) (s : SetContents) (scale : ℕ) → set_read_from bytes ≡ Ok s → IsSchedulable s scale → HasRoom (schedule_rows met) s scale
    → IsToRun met bytes s scale
to_run met bytes s scale read run room =
    record { reads = record { read = read; is_scale = run.is_scale; within = run.within }; fits = run.fits; room = room }

pub run_told : (met : Bool) (old new : Streams) (b n : Crew) (s : SetContents) → GaveSet old.left new.left set_limit s → RanSet met old.out new.out b n s
    → IsTold set_limit (WritesRun met b n) Done old new
run_told met old new b n s gave ran =
    let (bytes, all, read) = gave.gave in
    let (scale, run, room, took, rows) = ran in
    record { told = (bytes, text_of (schedule_rows met) s scale, all, (refl, (s, scale, to_run met bytes s scale read run room, refl, rows)), took) }

pub run_stopped : (window : ℕ) (met : Bool) (old new : Streams) (b n : Crew) (s : SetContents) (r : Refusal) → GaveSet old.left new.left set_limit s
    → StopsAtRun window met old.out new.out old.out_faults new.out_faults b n s r → StopsAs set_limit (WritesRun met b n) (RefusesRun window met b n) old new r
run_stopped window met old new b n s why.WriteFault gave stops =
    let (bytes, all, read) = gave.gave in
    let (scale, run, room, took, rose, rows) = stops in
    (bytes, text_of (schedule_rows met) s scale, Done, all, (refl, (s, scale, to_run met bytes s scale read run room, refl, rows)), took, rose)
run_stopped window met old new b n s (why.GateFault row name) gave stops =
    let (bytes, all, read) = gave.gave in
    let (scale, run, room, stopped, keeps) = stops in
    (bytes, all, (s, scale, to_run met bytes s scale read run room, stopped.0, stopped.1), keeps)
run_stopped window met old new b n s (why.JobFault row name) gave stops =
    let (bytes, all, read) = gave.gave in
    let (scale, run, room, stopped, keeps) = stops in
    (bytes, all, (s, scale, to_run met bytes s scale read run room, stopped.0, stopped.1), keeps)
run_stopped window met old new b n s why.NoMemory gave stops = stops.1
run_stopped window met old new b n s (why.TooLong rows) gave stops = let (bytes, all, read) = gave.gave in (bytes, all, (s, read, stops.0), stops.1)
run_stopped window met old new b n s (why.ScaleTooLarge task) gave stops = let (bytes, all, read) = gave.gave in (bytes, all, (s, read, stops.0), stops.1)
run_stopped window met old new b n s (why.Overload total room) gave stops = let (bytes, all, read) = gave.gave in (bytes, all, (s, read, stops.0), stops.1)
run_stopped window met old new b n s _ gave stops = absurd stops.0

-- no set was read
pub run_unread : (window : ℕ) (met : Bool) (old new : Streams) (b n : Crew) (r : Refusal) → GaveNoSet old.left new.left old.read_faults new.read_faults
    set_limit r
    → Keeps old.out new.out → StopsAs set_limit (WritesRun met b n) (RefusesRun window met b n) old new r
run_unread window met old new b n why.ReadFault none keeps = (none.0, none.1, keeps)
run_unread window met old new b n why.NoMemory none keeps = keeps
run_unread window met old new b n (why.InputTooLong count) none keeps = (none.0, none.1, keeps)
run_unread window met old new b n (why.BadSet q) none keeps = let (bytes, all, bad) = none in (bytes, all, bad, keeps)
run_unread window met old new b n _ none keeps = absurd none
