use Rattle.std.proofs.lemmas.Result.{IfOk-from_err}
use Rattle.partition_rounds.proofs.merging.merge_partition.Goals as goal

pub returns-in_err-first-clause-rows : goal.returns-in_err-first-clause-rows
returns-in_err-first-clause-rows c = IfOk-from_err _ _ c.from_residual.ensures.0

pub returns-in_err-first-clause-lawful : goal.returns-in_err-first-clause-lawful
returns-in_err-first-clause-lawful c = IfOk-from_err _ _ c.from_residual.ensures.0

pub returns-in_err-first-clause-few : goal.returns-in_err-first-clause-few
returns-in_err-first-clause-few c = IfOk-from_err _ _ c.from_residual.ensures.0

pub returns-in_err-told-clause-rows : goal.returns-in_err-told-clause-rows
returns-in_err-told-clause-rows c = IfOk-from_err _ _ c.from_residual-in_err-told.ensures.0

pub returns-in_err-told-clause-lawful : goal.returns-in_err-told-clause-lawful
returns-in_err-told-clause-lawful c = IfOk-from_err _ _ c.from_residual-in_err-told.ensures.0

pub returns-in_err-told-clause-few : goal.returns-in_err-told-clause-few
returns-in_err-told-clause-few c = IfOk-from_err _ _ c.from_residual-in_err-told.ensures.0

pub returns-in_err-leaves-clause-rows : goal.returns-in_err-leaves-clause-rows
returns-in_err-leaves-clause-rows c = IfOk-from_err _ _ c.from_residual-in_err-leaves.ensures.0

pub returns-in_err-leaves-clause-lawful : goal.returns-in_err-leaves-clause-lawful
returns-in_err-leaves-clause-lawful c = IfOk-from_err _ _ c.from_residual-in_err-leaves.ensures.0

pub returns-in_err-leaves-clause-few : goal.returns-in_err-leaves-clause-few
returns-in_err-leaves-clause-few c = IfOk-from_err _ _ c.from_residual-in_err-leaves.ensures.0

pub returns-in_err-sum-clause-rows : goal.returns-in_err-sum-clause-rows
returns-in_err-sum-clause-rows c = IfOk-from_err _ _ c.from_residual-in_err-sum.ensures.0

pub returns-in_err-sum-clause-lawful : goal.returns-in_err-sum-clause-lawful
returns-in_err-sum-clause-lawful c = IfOk-from_err _ _ c.from_residual-in_err-sum.ensures.0

pub returns-in_err-sum-clause-few : goal.returns-in_err-sum-clause-few
returns-in_err-sum-clause-few c = IfOk-from_err _ _ c.from_residual-in_err-sum.ensures.0

pub all_rounds-requires : goal.all_rounds-requires
all_rounds-requires c = record { sum = c.in_ok-sum.ensures.sum }
