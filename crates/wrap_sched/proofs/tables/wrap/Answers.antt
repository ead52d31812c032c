use Rattle.std.proofs.lemmas.Result.{IfOk-from_err}
use Rattle.std.proofs.Common.{[], ap, replicate, sym, ◌*◌, ◌∙◌}
use Rattle.wrap_sched.specs.Wrapped.{wrapped}
use Rattle.sched_base.proofs.TableRows.{lanes_valid}
use Rattle.wrap_sched.proofs.ValidRows.{wrapped_valid}
use Rattle.wrap_sched.proofs.tables.wrap.Goals as goal

pub returns-clause-valid : goal.returns-clause-valid
returns-clause-valid c =
    let s = c.args.set.now in
    let stop = s.horizon * c.args.scale in
    lanes_valid s c.args.scale stop stop (wrapped c.args.scale s) (wrapped_valid s c.args.scale c.processors-processors.ensures.lawful c.requires.scale
    c.requires.fits) c.push_slices.new.table.lanes (rw (c.in_ok-slices.ensures.of.0, c.in_ok-slices.ensures.of.1) at c.push_slices.ensures.lanes)
    c.know_whole.ensures.lawful

pub returns-in_err-slices-clause-lanes : goal.returns-in_err-slices-clause-lanes
returns-in_err-slices-clause-lanes c = IfOk-from_err _ _ c.from_residual-in_err-slices.ensures.0

pub returns-in_err-slices-clause-rounds : goal.returns-in_err-slices-clause-rounds
returns-in_err-slices-clause-rounds c = IfOk-from_err _ _ c.from_residual-in_err-slices.ensures.0

pub returns-in_err-slices-clause-full : goal.returns-in_err-slices-clause-full
returns-in_err-slices-clause-full c = IfOk-from_err _ _ c.from_residual-in_err-slices.ensures.0

pub returns-in_err-slices-clause-valid : goal.returns-in_err-slices-clause-valid
returns-in_err-slices-clause-valid c = IfOk-from_err _ _ c.from_residual-in_err-slices.ensures.0

pub returns-in_err-rows-clause-lanes : goal.returns-in_err-rows-clause-lanes
returns-in_err-rows-clause-lanes c = IfOk-from_err _ _ c.from_residual.ensures.0

pub returns-in_err-rows-clause-rounds : goal.returns-in_err-rows-clause-rounds
returns-in_err-rows-clause-rounds c = IfOk-from_err _ _ c.from_residual.ensures.0

pub returns-in_err-rows-clause-full : goal.returns-in_err-rows-clause-full
returns-in_err-rows-clause-full c = IfOk-from_err _ _ c.from_residual.ensures.0

pub returns-in_err-rows-clause-valid : goal.returns-in_err-rows-clause-valid
returns-in_err-rows-clause-valid c = IfOk-from_err _ _ c.from_residual.ensures.0

pub returns-in_err-table-clause-lanes : goal.returns-in_err-table-clause-lanes
returns-in_err-table-clause-lanes c = IfOk-from_err _ _ c.from_residual-in_err-table.ensures.0

pub returns-in_err-table-clause-rounds : goal.returns-in_err-table-clause-rounds
returns-in_err-table-clause-rounds c = IfOk-from_err _ _ c.from_residual-in_err-table.ensures.0

pub returns-in_err-table-clause-full : goal.returns-in_err-table-clause-full
returns-in_err-table-clause-full c = IfOk-from_err _ _ c.from_residual-in_err-table.ensures.0

pub returns-in_err-table-clause-valid : goal.returns-in_err-table-clause-valid
returns-in_err-table-clause-valid c = IfOk-from_err _ _ c.from_residual-in_err-table.ensures.0

pub of-requires-clause-scale : goal.of-requires-clause-scale
of-requires-clause-scale c = c.requires.scale

pub of-requires-clause-scale_fits : goal.of-requires-clause-scale_fits
of-requires-clause-scale_fits c = c.requires.scale_fits

pub push_slices-requires-clause-none : goal.push_slices-requires-clause-none
push_slices-requires-clause-none c = rw c.in_ok-slices.ensures.of.0 (c.in_ok-table.ensures.none ∙ ap (λ n. replicate n [])
    c.processors-processors.ensures.value)

pub push_slices-requires-clause-room : goal.push_slices-requires-clause-room
push_slices-requires-clause-room c = rw (c.in_ok-slices.ensures.of.0, c.in_ok-slices.ensures.of.1) (c.in_ok-table.ensures.room ∙ c.requires.rounds)

pub returns-clause-lanes : goal.returns-clause-lanes
returns-clause-lanes c = rw (c.in_ok-slices.ensures.of.0, c.in_ok-slices.ensures.of.1) at c.push_slices.ensures.lanes

pub returns-clause-rounds : goal.returns-clause-rounds
returns-clause-rounds c = rw (c.in_ok-slices.ensures.of.0, c.in_ok-slices.ensures.of.1) at c.push_slices.ensures.count ∙ sym c.requires.rounds

pub returns-clause-full : goal.returns-clause-full
returns-clause-full c = c.push_slices.ensures.full

pub push_slices-requires-clause-slices : goal.push_slices-requires-clause-slices
push_slices-requires-clause-slices c = c.in_ok-slices.ensures.slices
