use Rattle.std.proofs.lemmas.Result.{IfOk-from_err}
use Rattle.merged_rounds.proofs.recurrences.recurrence_of.Goals as goal

pub returns-in_err-core : goal.returns-in_err-core
returns-in_err-core c = IfOk-from_err _ _ c.from_residual.ensures.0

pub search-requires-clause-few : goal.search-requires-clause-few
search-requires-clause-few c = c.requires

pub returns-then-comes_round : goal.returns-then-comes_round
returns-then-comes_round c = c.search.ensures
