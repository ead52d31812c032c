-- A command that reads a set and writes a text of it: what was told, and why it stopped, said of the bytes.
use Rattle.std.proofs.Common.{ℕ, List, Option, Result, refl}
use Rattle.std.specs.Prelude.{OnOk, IfErr}
use Rattle.std.specs.Io.KnownBytes.{Keeps}
use Rattle.std.proofs.lemmas.Result.{IfErr-weaker, on_ok_weaker}
use Rattle.sched_base.specs.Sets.{SetContents}
use Rattle.rate_scale.specs.declared.loads.Load.{Load}
use Rattle.rate_scale.specs.declared.loads.LoadFault.{LoadFault}
use Rattle.rate_scale.specs.declared.loads.LoadFault.TheVariants as load
use Rattle.rate_scale.specs.Loads.{IsLoadOf, IsUnfit}
use Rattle.pure_commands.specs.Faults.{of_load}
use Rattle.pure_commands.specs.declared.refusal.Refusal.{Refusal}
use Rattle.pure_commands.specs.declared.refusal.Refusal.TheVariants as why
use Rattle.exit_status.specs.declared.Status.TheVariants.{Done}
use Rattle.pure_commands.specs.Commands.{SetText, of_set, set_limit, text_of, ReadsSet, Writes, RefusesText}
use Rattle.pure_commands.specs.Ends.{Streams, IsTold, StopsAs}
use Rattle.pure_commands.specs.Input.{GaveSet, GaveNoSet, IsRefusedSet, IsSchedulable, StopsAtSet, WroteSet}
use Rattle.pure_commands.proofs.EndLemmas.{keeps_same}

told_is : (what : SetText) (old new : Streams) (s : SetContents) → GaveSet old.left new.left set_limit s → WroteSet what old.out new.out s
    → IsTold set_limit (Writes (of_set what)) Done old new
told_is what old new s gave wrote =
    let (bytes, all, read) = gave.gave in
    let (scale, run, room, took) = wrote in
    let reads : ReadsSet bytes s scale = record { read = read; is_scale = run.is_scale; within = run.within } in
    record { told = (bytes, text_of what s scale, all, (refl, (s, scale, reads, run.fits, room, refl)), took) }

stopped_is : (what : SetText) (old new : Streams) (s : SetContents) (r : Refusal) → GaveSet old.left new.left set_limit s
    → StopsAtSet what old.out new.out old.out_faults new.out_faults s r → StopsAs set_limit (Writes (of_set what)) (RefusesText what) old new r
stopped_is what old new s why.WriteFault gave stops =
    let (bytes, all, read) = gave.gave in
    let (scale, run, room, took, rose) = stops in
    let reads : ReadsSet bytes s scale = record { read = read; is_scale = run.is_scale; within = run.within } in
    (bytes, text_of what s scale, Done, all, (refl, (s, scale, reads, run.fits, room, refl)), took, rose)
stopped_is what old new s why.NoMemory gave stops = stops.1
stopped_is what old new s why.Usage gave stops = absurd stops.0
stopped_is what old new s why.ReadFault gave stops = absurd stops.0
stopped_is what old new s (why.BadSet q) gave stops = absurd stops.0
stopped_is what old new s (why.InputTooLong count) gave stops = absurd stops.0
stopped_is what old new s _ gave stops = let (bytes, all, read) = gave.gave in (bytes, all, (s, read, stops.0), stops.1)

-- the text of a set that was read was told
pub set_told : {T E : Type 0} (what : SetText) (old new : Streams) (s : SetContents) (r : Result T E) → GaveSet old.left new.left set_limit s
    → OnOk r (WroteSet what old.out new.out s) → OnOk r (IsTold set_limit (Writes (of_set what)) Done old new)
set_told what old new s r gave wrote = on_ok_weaker r (λ w. told_is what old new s gave w) wrote

-- why it wasn't
pub set_stopped : {T : Type 0} (what : SetText) (old new : Streams) (s : SetContents) (r : Result T Refusal) → GaveSet old.left new.left set_limit s
    → IfErr r (StopsAtSet what old.out new.out old.out_faults new.out_faults s)
    → IfErr r (StopsAs set_limit (Writes (of_set what)) (RefusesText what) old new)
set_stopped what old new s r gave stops = IfErr-weaker r _ _ (λ q h. stopped_is what old new s q gave h) stops

-- why no set was read
pub set_unread : (what : SetText) (old new : Streams) (r : Refusal) → GaveNoSet old.left new.left old.read_faults new.read_faults set_limit r
    → Keeps old.out new.out → StopsAs set_limit (Writes (of_set what)) (RefusesText what) old new r
set_unread what old new why.ReadFault none keeps = (none.0, none.1, keeps)
set_unread what old new why.NoMemory none keeps = keeps
set_unread what old new (why.InputTooLong count) none keeps = (none.0, none.1, keeps)
set_unread what old new (why.BadSet q) none keeps = let (bytes, all, bad) = none in (bytes, all, bad, keeps)
set_unread what old new _ none keeps = absurd none

-- a set that isn't told of at all
pub refused_stops : (what : SetText) (s : SetContents) (out : Option (List ℕ)) (faults : ℕ) (r : Refusal) → IsRefusedSet s r
    → StopsAtSet what out out faults faults s r
refused_stops what s out faults why.WriteFault is = absurd is
refused_stops what s out faults (why.TooLong rows) is = absurd is
refused_stops what s out faults (why.TooWide ticks) is = absurd is
refused_stops what s out faults (why.NoRepeat task) is = absurd is
refused_stops what s out faults (why.WideRepeat units) is = absurd is
refused_stops what s out faults _ is = (is, keeps_same out)

-- a set that doesn't fit isn't told of at all
pub unfit_refused : (s : SetContents) (fault : LoadFault) → IsUnfit s fault → IsRefusedSet s (of_load fault)
unfit_refused s (load.ScaleTooLarge at) is = is
unfit_refused s (load.Overload total room) is =
    let (scale, has, sum, all) = is.some_scale in (scale, has.is, has.within, is.over, sum, all)

-- the load of a set that fits says that it can be scheduled
pub load_runs : (s : SetContents) (l : Load) → IsLoadOf s l → IsSchedulable s l.scale
load_runs s l is = record { is_scale = is.scale.is; within = is.scale.within; fits = is.fits }
