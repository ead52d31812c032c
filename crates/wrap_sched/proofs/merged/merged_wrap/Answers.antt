use Rattle.std.proofs.Common.{[], ap, replicate, ◌∙◌}
use Rattle.std.proofs.lemmas.Result.{IfOk-from_err}
use Rattle.wrap_sched.proofs.merged.merged_wrap.Goals as goal

pub returns-in_err-slices-clause-rows : goal.returns-in_err-slices-clause-rows
returns-in_err-slices-clause-rows c = IfOk-from_err _ _ c.from_residual-in_err-slices.ensures.0

pub returns-in_err-slices-clause-lawful : goal.returns-in_err-slices-clause-lawful
returns-in_err-slices-clause-lawful c = IfOk-from_err _ _ c.from_residual-in_err-slices.ensures.0

pub returns-in_err-rows-clause-rows : goal.returns-in_err-rows-clause-rows
returns-in_err-rows-clause-rows c = IfOk-from_err _ _ c.from_residual.ensures.0

pub returns-in_err-rows-clause-lawful : goal.returns-in_err-rows-clause-lawful
returns-in_err-rows-clause-lawful c = IfOk-from_err _ _ c.from_residual.ensures.0

pub returns-in_err-none-clause-rows : goal.returns-in_err-none-clause-rows
returns-in_err-none-clause-rows c = IfOk-from_err _ _ c.from_residual-in_err-none.ensures.0

pub returns-in_err-none-clause-lawful : goal.returns-in_err-none-clause-lawful
returns-in_err-none-clause-lawful c = IfOk-from_err _ _ c.from_residual-in_err-none.ensures.0

pub returns-clause-rows : goal.returns-clause-rows
returns-clause-rows c = rw (c.in_ok-slices.ensures.of.0, c.in_ok-slices.ensures.of.1) at c.merge_slices.ensures.rows

pub returns-clause-lawful : goal.returns-clause-lawful
returns-clause-lawful c = rw c.in_ok-slices.ensures.of.0 at c.merge_slices.ensures.lawful

pub merge_slices-requires-clause-few : goal.merge_slices-requires-clause-few
merge_slices-requires-clause-few c = rw (c.in_ok-slices.ensures.of.0, c.in_ok-slices.ensures.of.1) c.requires.few

pub of-requires-clause-scale : goal.of-requires-clause-scale
of-requires-clause-scale c = c.requires.scale

pub of-requires-clause-scale_fits : goal.of-requires-clause-scale_fits
of-requires-clause-scale_fits c = c.requires.scale_fits

pub merge_slices-requires-clause-none : goal.merge_slices-requires-clause-none
merge_slices-requires-clause-none c = rw c.in_ok-slices.ensures.of.0 (c.in_ok-none.ensures.none ∙ ap (λ n. replicate n [])
    c.processors-processors.ensures.value)

pub merge_slices-requires-clause-start : goal.merge_slices-requires-clause-start
merge_slices-requires-clause-start c = c.in_ok-none.ensures.start

pub merge_slices-requires-clause-slices : goal.merge_slices-requires-clause-slices
merge_slices-requires-clause-slices c = c.in_ok-slices.ensures.slices
