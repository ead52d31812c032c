use Rattle.std.proofs.Common.{◌≡◌, Result, Ok, Err}
use Rattle.std.specs.Result.{MatchResult, IfOk, IfErr, OnOk}
use Rattle.pure_commands.specs.declared.refusal.Refusal.{Refusal}
use Rattle.exit_status.specs.declared.Status.{Status}
use Rattle.exit_status.specs.declared.Status.TheVariants.{Done}
use Rattle.pure_commands.specs.Commands.{Output, output_of}
use Rattle.pure_commands.specs.Ends.{Streams, streams_of, IsDone, Stops}
use Rattle.pure_commands.proofs.top.read.Goals as goal
use Rattle.pure_commands.proofs.top.read.Goals.{in-Rate, in-Tree, in-Trace, in-TraceMet, in-TraceWrap, in-TraceRepeat, in-Table, in-TableRepeat}
use Rattle.pure_commands.proofs.top.read.Goals.{in-Follow, in-Draw}

-- the result is `Done` where the text was told, else the refusal
abbrev IsDoneAs : Result (Unit {0}) Refusal → Result Status Refusal → Type 0
IsDoneAs told made = MatchResult told (λ _. made ≡ Ok Done) (λ refusal. made ≡ Err refusal)

-- what was told is done
done_as : (told : Result (Unit {0}) Refusal) (made : Result Status Refusal) (what : Output) (old new : Streams) → IsDoneAs told made
    → OnOk told (IsDone what Done old new) → IfOk made (λ status. IsDone what status old new)
done_as (Ok _) made what old new e done = rw e done
done_as (Err refusal) made what old new e done = rw e tt

-- what stopped stops
stops_as : (told : Result (Unit {0}) Refusal) (made : Result Status Refusal) (what : Output) (old new : Streams) → IsDoneAs told made
    → IfErr told (Stops what old new) → IfErr made (Stops what old new)
stops_as (Ok _) made what old new e stops = rw e tt
stops_as (Err refusal) made what old new e stops = rw e stops

pub returns-in-Check-clause-done : goal.returns-in-Check-clause-done
returns-in-Check-clause-done g c = rw c.in-Check.is c.check.ensures.told

pub returns-in-Check-clause-stops : goal.returns-in-Check-clause-stops
returns-in-Check-clause-stops g c = rw c.in-Check.is c.check.ensures.stops

pub returns : goal.returns
returns g c =
    let what = output_of c.args.reading in
    let old = streams_of g.R.Source g.W.Sink c.args.source.now c.args.out.now in
    let new = streams_of g.R.Source g.W.Sink c.match-reading.source c.match-reading.out in
    let told : OnOk c.match-reading.told (IsDone what Done old new) × IfErr c.match-reading.told (Stops what old new) = elim c.match-reading.branch [
      | in-Rate w ↦ rw (w.in-Rate.is, w.told-is, w.source-is, w.out-is) (w.tell_set-told.ensures.done, w.tell_set-told.ensures.stops)
      | in-Tree w ↦ rw (w.in-Tree.is, w.told-is, w.source-is, w.out-is) (w.tell_set-told-in-Tree.ensures.done, w.tell_set-told-in-Tree.ensures.stops)
      | in-Trace w ↦ rw (w.in-Trace.is, w.told-is, w.source-is, w.out-is) (w.tell_set-told-in-Trace.ensures.done, w.tell_set-told-in-Trace.ensures.stops)
      | in-TraceMet w ↦ rw (w.in-TraceMet.is, w.told-is, w.source-is, w.out-is) (
        w.tell_set-told-in-TraceMet.ensures.done,
        w.tell_set-told-in-TraceMet.ensures.stops,
      )
      | in-TraceWrap w ↦ rw (w.in-TraceWrap.is, w.told-is, w.source-is, w.out-is) (
        w.tell_set-told-in-TraceWrap.ensures.done,
        w.tell_set-told-in-TraceWrap.ensures.stops,
      )
      | in-TraceRepeat w ↦ rw (w.in-TraceRepeat.is, w.told-is, w.source-is, w.out-is) (
        w.tell_set-told-in-TraceRepeat.ensures.done,
        w.tell_set-told-in-TraceRepeat.ensures.stops,
      )
      | in-Table w ↦ rw (w.in-Table.is, w.told-is, w.source-is, w.out-is) (w.tell_set-told-in-Table.ensures.done, w.tell_set-told-in-Table.ensures.stops)
      | in-TableRepeat w ↦ rw (w.in-TableRepeat.is, w.told-is, w.source-is, w.out-is) (
        w.tell_set-told-in-TableRepeat.ensures.done,
        w.tell_set-told-in-TableRepeat.ensures.stops,
      )
      | in-Follow w ↦ rw (w.in-Follow.is, w.told-is, w.source-is, w.out-is) (w.follow-told.ensures.done, w.follow-told.ensures.stops)
      | in-Draw w ↦ rw (w.in-Draw.is, w.told-is, w.source-is, w.out-is) (w.draw-told.ensures.done, w.draw-told.ensures.stops)
    ] in
    record {
      done = done_as c.match-reading.told c.done.result what old new c.done.ensures told.0;
      stops = stops_as c.match-reading.told c.done.result what old new c.done.ensures told.1;
    }
