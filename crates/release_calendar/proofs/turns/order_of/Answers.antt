use Rattle.std.proofs.Common.{arith}
use Rattle.std.proofs.lemmas.Result.{IfOk-from_err}
use Rattle.release_calendar.proofs.turns.order_of.Goals as goal

pub new-requires-clause-some : goal.new-requires-clause-some
new-requires-clause-some c = c.requires.some

pub new-requires-clause-few : goal.new-requires-clause-few
new-requires-clause-few c = let few = c.requires.few in omega (arith, few)

pub returns-in_err-order : goal.returns-in_err-order
returns-in_err-order c = IfOk-from_err _ _ c.from_residual.ensures.0

pub put_ends-requires-clause-few : goal.put_ends-requires-clause-few
put_ends-requires-clause-few c = c.requires.few

pub put_ends-requires-clause-fit : goal.put_ends-requires-clause-fit
put_ends-requires-clause-fit c = c.requires.fit

pub returns : goal.returns
returns c = c.put_ends.ensures
