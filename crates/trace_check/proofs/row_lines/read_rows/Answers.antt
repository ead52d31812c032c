use Rattle.std.proofs.lemmas.Result.{IfOk-from_err, err_from_is_err_and}
use Rattle.std.proofs.Common.{◌+◌, drop, length, subst, sym, ap, ◌∙◌}
use Rattle.std.proofs.lemmas.List.{take_at}
use Rattle.trace_check.proofs.RowLemmas.{ReadSoFar, read_none, tasks_line_fits, row_line_fits, some_left, none_left, read_more, read_ends, read_stops}
use Rattle.trace_check.specs.declared.row_lines.RowsRead.{RowsRead}
use Rattle.trace_check.proofs.row_lines.read_rows.Goals as goal
use Rattle.trace_check.proofs.row_lines.read_rows.Goals.{else-loop-table-test, then-loop-table-test+in-Ends}

pub next_row-requires : goal.next_row-requires
next_row-requires c =
    let so = c.loop-table.invariant in
    let totals = c.deref.ensures.value in
    record {
      some = some_left (length c.loop-table.rest.now) (sym c.loop-table-test.ensures);
      totals = rw totals so.totals;
      count = ap length totals ∙ so.count;
    }

pub returns-in-Fault-clause-fault : goal.returns-in-Fault-clause-fault
returns-in-Fault-clause-fault c =
    let tasks = c.args.set.now.tasks in
    let rows = c.loop-table.rows in
    let count = c.from.ensures ∙ c.count.ensures.value in
    let long = c.len.ensures in
    read_stops tasks c.args.text.now c.loop-table.rest.now rows c.loop-table.totals.items (6 + c.from.result + c.len.result) c.loop-table.invariant
    c.in-Fault.ensures
    (ap (λ n. 6 + n + c.len.result) count ∙ ap (λ n. 6 + length tasks + n) long)

pub add_ticks-requires : goal.add_ticks-requires
add_ticks-requires c =
    let so = c.loop-table.invariant in
    let totals = c.deref_mut.ensures.value in
    record {
      totals = rw totals so.totals;
      count = ap length totals ∙ so.count;
      read = c.in-Row.ensures.0;
    }

pub loop-table-preserved : goal.loop-table-preserved
loop-table-preserved c =
    let old = c.loop-table.totals in
    let new = c.add_ticks.new.totals in
    let long = c.add_ticks.auto.totals ∙ ap length c.deref_mut.ensures.value in
    let back = take_at new (drop (length new) old.items) old.len (long ∙ sym old.ok.0) in
    let next = c.in-Row.ensures in
    subst (λ sums. ReadSoFar c.args.set.now.tasks c.args.text.now c.push.new.self sums c.in-Row.later.now) (sym back)
    (read_more c.args.set.now.tasks c.args.text.now c.loop-table.rest.now c.in-Row.later.now c.loop-table.rows c.push.new.self c.in-Row.row old.items new
    c.loop-table.invariant next.0 next.2
    c.in_ok-push.ensures c.add_ticks.ensures long)

pub returns-clause-read : goal.returns-clause-read
returns-clause-read c =
    let read : RowsRead = record { rows = c.loop-table.rows; totals = c.loop-table.totals; rest = c.loop-table.rest } in
    read_ends c.args.set.now.tasks c.args.text.now read c.loop-table.invariant
    (elim c.loop-table-test.branch [
      | else-loop-table-test w ↦ none_left c.args.set.now.tasks read.rows read.rest.now (sym w.loop-table-test.ensures)
      | then-loop-table-test+in-Ends w ↦ w.in-Ends.ensures
    ])

pub returns-in_err-table-clause-read : goal.returns-in_err-table-clause-read
returns-in_err-table-clause-read c = IfOk-from_err _ _ c.from_residual.ensures.0

pub returns-in_err-table-clause-fault : goal.returns-in_err-table-clause-fault
returns-in_err-table-clause-fault c = let why = err_from_is_err_and c.from_residual.result c.from_residual.ensures.1 in rw (why.1, why.2) tt

pub returns-in_err-totals-clause-read : goal.returns-in_err-totals-clause-read
returns-in_err-totals-clause-read c = IfOk-from_err _ _ c.from_residual-in_err-totals.ensures.0

pub returns-in_err-totals-clause-fault : goal.returns-in_err-totals-clause-fault
returns-in_err-totals-clause-fault c = let why = err_from_is_err_and c.from_residual-in_err-totals.result c.from_residual-in_err-totals.ensures.1 in
    rw (why.1, why.2) tt

pub returns-in_err-push-clause-read : goal.returns-in_err-push-clause-read
returns-in_err-push-clause-read c = IfOk-from_err _ _ c.from_residual-in_err-push.ensures.0

pub returns-in_err-push-clause-fault : goal.returns-in_err-push-clause-fault
returns-in_err-push-clause-fault c = let why = err_from_is_err_and c.from_residual-in_err-push.result c.from_residual-in_err-push.ensures.1 in
    rw (why.1, why.2) tt

pub returns-in-Fault-clause-read : goal.returns-in-Fault-clause-read
returns-in-Fault-clause-read c = tt

pub returns-clause-fault : goal.returns-clause-fault
returns-clause-fault c = tt

pub loop-table-init : goal.loop-table-init
loop-table-init c =
    read_none c.args.set.now.tasks c.args.text.now c.new-rows.result c.in_ok-totals.totals.items (length c.tasks.result.now) c.new-rows.ensures
    (c.in_ok-totals.ensures.items_if_clones_equal (λ x same. same)) (ap length c.tasks.ensures.value)

pub loop-table-smaller : goal.loop-table-smaller
loop-table-smaller c = c.in-Row.ensures.1

pub overflow_add-result : goal.overflow_add-result
overflow_add-result c =
    tasks_line_fits c.from.result (length c.args.set.now.tasks) (c.from.ensures ∙ c.count.ensures.value) c.count.ensures.lawful.few_tasks

pub overflow_add-result-in-Fault : goal.overflow_add-result-in-Fault
overflow_add-result-in-Fault c =
    row_line_fits c.from.result (length c.args.set.now.tasks) c.len.result (length c.loop-table.rows) (c.from.ensures ∙ c.count.ensures.value)
    c.count.ensures.lawful.few_tasks c.len.ensures c.loop-table.invariant.few
