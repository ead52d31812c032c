use Rattle.std.proofs.lemmas.Result.{IfOk-from_err}
use Rattle.std.proofs.Common.{length, arith}
use Rattle.std.proofs.lemmas.List.Sorted.{length_permutation}
use Rattle.trace_verdict.specs.Orders.{task_key}
use Rattle.trace_verdict.specs.Findings.{AreTold}
use Rattle.trace_verdict.specs.Supplied.{IsSuppliedOrder}
use Rattle.trace_verdict.proofs.PartLemmas.{length-entries_from}
use Rattle.trace_verdict.proofs.VerdictLemmas.{no_verdict}
use Rattle.row_judgments.proofs.judgments.judge_tasks.Goals as goal

pub starts_of-requires-clause-few : goal.starts_of-requires-clause-few
starts_of-requires-clause-few c =
    let same = length_permutation _ _ c.in_ok-entries.ensures.same in
    let most = length-entries_from task_key 0 c.args.rows.now in
    omega (arith, same, most, c.requires.trace.few, c.deref-3.ensures)

pub returns-in-Some-clause-verdict : goal.returns-in-Some-clause-verdict
returns-in-Some-clause-verdict c =
    let found : IsSuppliedOrder c.args.set.now c.args.scale c.args.rows.now c.in-Some.order.places.items c.in-Some.order.starts.items = rw c.in-Some.is at
    c.in_ok-order.ensures.order in
    no_verdict c.args.set.now c.args.scale c.args.rows.now c.args.unfit c.args.hit (length c.args.rows.now) (length c.args.set.now.tasks)
    c.requires.unfit c.requires.hit found.apart (omega (arith, c.if-min-len.true, c.min.ensures, c.len.ensures)) (omega (
      arith,
      c.if-min-len.true,
      c.min.ensures,
      c.len.ensures,
    )) (omega arith) found.supplied (omega arith)

pub returns-in-Some-clause-order : goal.returns-in-Some-clause-order
returns-in-Some-clause-order c =
    let found : IsSuppliedOrder c.args.set.now c.args.scale c.args.rows.now c.in-Some.order.places.items c.in-Some.order.starts.items = rw c.in-Some.is at
    c.in_ok-order.ensures.order in
    found.order

pub returns-in-Some-clause-found : goal.returns-in-Some-clause-found
returns-in-Some-clause-found c =
    let found : AreTold c.args.set.now c.args.scale c.args.rows.now c.in-Some.order.found.items = rw c.in-Some.is at c.in_ok-order.ensures.told in
    found

pub supplied_order-requires : goal.supplied_order-requires
supplied_order-requires c = record { trace = c.requires.trace }

pub returns-in_err-order-clause-order : goal.returns-in_err-order-clause-order
returns-in_err-order-clause-order c = IfOk-from_err _ _ c.from_residual.ensures.0

pub returns-in_err-order-clause-found : goal.returns-in_err-order-clause-found
returns-in_err-order-clause-found c = IfOk-from_err _ _ c.from_residual.ensures.0

pub returns-in_err-order-clause-verdict : goal.returns-in_err-order-clause-verdict
returns-in_err-order-clause-verdict c = IfOk-from_err _ _ c.from_residual.ensures.0

pub order_by_task-requires : goal.order_by_task-requires
order_by_task-requires c = c.requires.trace.few

pub returns-in_err-entries-clause-order : goal.returns-in_err-entries-clause-order
returns-in_err-entries-clause-order c = IfOk-from_err _ _ c.from_residual-in_err-entries.ensures.0

pub returns-in_err-entries-clause-found : goal.returns-in_err-entries-clause-found
returns-in_err-entries-clause-found c = IfOk-from_err _ _ c.from_residual-in_err-entries.ensures.0

pub returns-in_err-entries-clause-verdict : goal.returns-in_err-entries-clause-verdict
returns-in_err-entries-clause-verdict c = IfOk-from_err _ _ c.from_residual-in_err-entries.ensures.0

pub verdict_of-verdict-requires-clause-trace : goal.verdict_of-verdict-requires-clause-trace
verdict_of-verdict-requires-clause-trace c = c.requires.trace

pub verdict_of-verdict-requires-clause-unfit : goal.verdict_of-verdict-requires-clause-unfit
verdict_of-verdict-requires-clause-unfit c = c.requires.unfit

pub verdict_of-verdict-requires-clause-hit : goal.verdict_of-verdict-requires-clause-hit
verdict_of-verdict-requires-clause-hit c = c.requires.hit

pub verdict_of-verdict-requires-clause-by_task : goal.verdict_of-verdict-requires-clause-by_task
verdict_of-verdict-requires-clause-by_task c = rw c.deref.ensures.value c.in_ok-entries.ensures

pub returns-in_err-places_of-clause-order : goal.returns-in_err-places_of-clause-order
returns-in_err-places_of-clause-order c = IfOk-from_err _ _ c.from_residual-in_err-places_of.ensures.0

pub returns-in_err-places_of-clause-found : goal.returns-in_err-places_of-clause-found
returns-in_err-places_of-clause-found c = IfOk-from_err _ _ c.from_residual-in_err-places_of.ensures.0

pub returns-in_err-places_of-clause-verdict : goal.returns-in_err-places_of-clause-verdict
returns-in_err-places_of-clause-verdict c = IfOk-from_err _ _ c.from_residual-in_err-places_of.ensures.0

pub starts_of-requires-clause-sorted : goal.starts_of-requires-clause-sorted
starts_of-requires-clause-sorted c = rw c.deref-3.ensures.value c.in_ok-entries.ensures.sorted

pub returns-in_err-starts_of-clause-order : goal.returns-in_err-starts_of-clause-order
returns-in_err-starts_of-clause-order c = IfOk-from_err _ _ c.from_residual-in_err-starts_of.ensures.0

pub returns-in_err-starts_of-clause-found : goal.returns-in_err-starts_of-clause-found
returns-in_err-starts_of-clause-found c = IfOk-from_err _ _ c.from_residual-in_err-starts_of.ensures.0

pub returns-in_err-starts_of-clause-verdict : goal.returns-in_err-starts_of-clause-verdict
returns-in_err-starts_of-clause-verdict c = IfOk-from_err _ _ c.from_residual-in_err-starts_of.ensures.0

pub returns-clause-verdict : goal.returns-clause-verdict
returns-clause-verdict c = c.verdict_of-verdict.ensures

pub returns-in_err-order-clause-all : goal.returns-in_err-order-clause-all
returns-in_err-order-clause-all c = IfOk-from_err _ _ c.from_residual.ensures.0

pub returns-in_err-entries-clause-all : goal.returns-in_err-entries-clause-all
returns-in_err-entries-clause-all c = IfOk-from_err _ _ c.from_residual-in_err-entries.ensures.0

pub returns-in_err-places_of-clause-all : goal.returns-in_err-places_of-clause-all
returns-in_err-places_of-clause-all c = IfOk-from_err _ _ c.from_residual-in_err-places_of.ensures.0

pub returns-in_err-starts_of-clause-all : goal.returns-in_err-starts_of-clause-all
returns-in_err-starts_of-clause-all c = IfOk-from_err _ _ c.from_residual-in_err-starts_of.ensures.0

pub returns-in_err-found_by-clause-order : goal.returns-in_err-found_by-clause-order
returns-in_err-found_by-clause-order c = IfOk-from_err _ _ c.from_residual-in_err-found_by.ensures.0

pub returns-in_err-found_by-clause-found : goal.returns-in_err-found_by-clause-found
returns-in_err-found_by-clause-found c = IfOk-from_err _ _ c.from_residual-in_err-found_by.ensures.0

pub returns-in_err-found_by-clause-all : goal.returns-in_err-found_by-clause-all
returns-in_err-found_by-clause-all c = IfOk-from_err _ _ c.from_residual-in_err-found_by.ensures.0

pub returns-in_err-found_by-clause-verdict : goal.returns-in_err-found_by-clause-verdict
returns-in_err-found_by-clause-verdict c = IfOk-from_err _ _ c.from_residual-in_err-found_by.ensures.0

pub found_by-requires-clause-trace : goal.found_by-requires-clause-trace
found_by-requires-clause-trace c = c.requires.trace

pub found_by-requires-clause-verdict : goal.found_by-requires-clause-verdict
found_by-requires-clause-verdict c = c.verdict_of-verdict.ensures
