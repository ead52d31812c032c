use Rattle.std.proofs.lemmas.Result.{IfOk-from_err}
use Rattle.std.proofs.Common.{ap, ◌∙◌, arith}
use Rattle.std.proofs.lemmas.List.{take_all}
use Rattle.sched_base.specs.declared.rows.Leaf.TheVariants as leaves
use Rattle.trace_verdict.specs.Orders.{key_by, entries_from}
use Rattle.trace_verdict.proofs.ListedLemmas.{entries_push_row}
use Rattle.trace_verdict.proofs.orders.entries_by.Goals as goal

pub loop-i-preserved : goal.loop-i-preserved
loop-i-preserved c =
    entries_push_row (key_by c.args.by) c.args.rows.now c.loop-i.i c.get-row.result
    (record { processor = 0; start = 0; end = 0; leaf = leaves.Task (record { 0 = 0 }) }) c.loop-i.entries.items c.add_entry.new.entries.items
    c.key_of.result (omega (arith, c.loop-i-test.true, c.len-i-end.ensures)) c.get-row.ensures c.loop-i.invariant c.in_ok-add_entry.ensures c.key_of.ensures

pub returns : goal.returns
returns c = c.loop-i.invariant ∙ ap (entries_from (key_by c.args.by) 0) (take_all c.loop-i.i c.args.rows.now (omega arith))

pub returns-in_err-add_entry : goal.returns-in_err-add_entry
returns-in_err-add_entry c = IfOk-from_err _ _ c.from_residual.ensures.0
