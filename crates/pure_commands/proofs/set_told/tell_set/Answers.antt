use Rattle.std.proofs.lemmas.Result.{err_from_is_err_and}
use Rattle.pure_commands.specs.Ends.{streams_of}
use Rattle.pure_commands.specs.SetTold.{text_told}
use Rattle.pure_commands.proofs.EndLemmas.{keeps_same}
use Rattle.pure_commands.proofs.SetLemmas.{set_told, set_stopped, set_unread}
use Rattle.pure_commands.proofs.set_told.tell_set.Goals as goal

pub returns-in_err-set-clause-stops : goal.returns-in_err-set-clause-stops
returns-in_err-set-clause-stops g c =
    let old = streams_of g.R.Source g.W.Sink c.args.source.now c.args.out.now in
    let new = streams_of g.R.Source g.W.Sink c.read_input.new.source c.args.out.now in
    let why = err_from_is_err_and c.from_residual.result c.from_residual.ensures.1 in
    rw (why.1, why.2) (set_unread (text_told c.args.told) old new _ c.in_err-set.ensures.refusal (keeps_same _))

pub returns-clause-done : goal.returns-clause-done
returns-clause-done g c =
    let old = streams_of g.R.Source g.W.Sink c.args.source.now c.args.out.now in
    let new = streams_of g.R.Source g.W.Sink c.read_input.new.source c.write_told.new.out in
    set_told (text_told c.args.told) old new c.in_ok-set.set c.write_told.result c.in_ok-set.ensures.set c.write_told.ensures.done

pub returns-clause-stops : goal.returns-clause-stops
returns-clause-stops g c =
    let old = streams_of g.R.Source g.W.Sink c.args.source.now c.args.out.now in
    let new = streams_of g.R.Source g.W.Sink c.read_input.new.source c.write_told.new.out in
    set_stopped (text_told c.args.told) old new c.in_ok-set.set c.write_told.result c.in_ok-set.ensures.set c.write_told.ensures.stops
