use Rattle.std.proofs.lemmas.Result.{err_from_is_err_and}
use Rattle.text_window.proofs.WindowLemmas.{skips_more, skips_rest, skips_stop}
use Rattle.text_window.proofs.window.Window.skip_all.Goals as goal

pub returns-in_err-read_on-clause-stops : goal.returns-in_err-read_on-clause-stops
returns-in_err-read_on-clause-stops g c =
    let (fault, is, same) = err_from_is_err_and c.from_residual.result c.from_residual.ensures.1 in
    rw (is, same) (skips_stop _ _ _ _ _ _ c.args.self.now c.loop.self c.pass.new.self _ c.loop.invariant c.pass.ensures.count c.pass.ensures.limit
    c.in_err-read_on.ensures.stops)

pub returns-then-not-branch-clause-rest : goal.returns-then-not-branch-clause-rest
returns-then-not-branch-clause-rest g c =
    let on = skips_more _ _ _ _ _ _ c.args.self.now c.loop.self c.pass.new.self c.read_on.new.self c.loop.invariant c.pass.ensures.count
    c.pass.ensures.limit c.in_ok-read_on.ensures.fills c.in_ok-read_on.ensures.later in
    skips_rest _ _ _ _ c.args.self.now c.read_on.new.self on (c.in_ok-read_on.ensures.end c.if-not-branch.true)

pub returns-then-not-branch-clause-limit : goal.returns-then-not-branch-clause-limit
returns-then-not-branch-clause-limit g c =
    let on = skips_more _ _ _ _ _ _ c.args.self.now c.loop.self c.pass.new.self c.read_on.new.self c.loop.invariant c.pass.ensures.count
    c.pass.ensures.limit c.in_ok-read_on.ensures.fills c.in_ok-read_on.ensures.later in
    on.limit

pub loop-preserved : goal.loop-preserved
loop-preserved g c =
    skips_more _ _ _ _ _ _ c.args.self.now c.loop.self c.pass.new.self c.read_on.new.self c.loop.invariant c.pass.ensures.count c.pass.ensures.limit
    c.in_ok-read_on.ensures.fills c.in_ok-read_on.ensures.later
