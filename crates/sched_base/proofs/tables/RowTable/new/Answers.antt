use Rattle.std.proofs.Common.{◌≡◌, ◌+◌, ◌∙◌, ap, arith, length}
use Rattle.std.proofs.lemmas.List.{length_push}
use Rattle.sched_base.specs.Tables.{LaneHeld}
use Rattle.sched_base.proofs.LaneLemmas.{HaveRoom-push}
use Rattle.sched_base.proofs.ColumnLemmas.{AreFilled-push, lanes_held-new, held_new}
use Rattle.sched_base.proofs.tables.RowTable.new.Goals as goal

pub loop-p-preserved : goal.loop-p-preserved
loop-p-preserved c =
    let lanes = c.loop-p.lanes.items in
    let lane = c.in_ok-with_room.field-0 in
    let is = c.in_ok-with_room.ensures in
    let room = ap (λ (l : LaneHeld). l.room) is in
    record {
      count = ap length c.in_ok-push.ensures.items ∙ length_push lanes lane ∙ ap (λ n. n + 1) c.loop-p.invariant.count;
      blank = rw c.in_ok-push.ensures.items (AreFilled-push 0 lanes lane c.loop-p.invariant.blank (ap (λ (l : LaneHeld). length l.leaves) is));
      reserved = rw c.in_ok-push.ensures.items (HaveRoom-push c.args.rounds lanes lane c.loop-p.invariant.reserved (omega (arith, room)));
    }

pub invariant_of-result : goal.invariant_of-result
invariant_of-result c =
    held_new c.in_ok-ends.ends c.loop-p.lanes.items c.loop-p._p c.args.rounds c.in_ok-ends.ensures c.loop-p.invariant.count (omega arith)
    c.loop-p.invariant.blank c.loop-p.invariant.reserved

pub returns-clause-none : goal.returns-clause-none
returns-clause-none c =
    let off = c.loop-p-test.false in
    let whole : c.loop-p._p ≡ c.args.processors = omega (arith, off) in
    lanes_held-new c.in_ok-ends.ends c.loop-p.lanes.items c.args.processors c.args.rounds c.in_ok-ends.ensures (c.loop-p.invariant.count ∙ whole)
