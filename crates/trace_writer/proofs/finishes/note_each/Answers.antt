use Rattle.std.proofs.Common.{◌≤◌, ◌<◌, subst, arith}
use Rattle.trace_writer.proofs.FinishLemmas.{noted_first, noted_next, noted_stop, noted_all}
use Rattle.trace_writer.proofs.finishes.note_each.Goals as goal

pub loop-k-init : goal.loop-k-init
loop-k-init c = (
  c.period_start-begin.ensures,
  λ rows done. noted_first c.args.scale c.args.task.now c.args._number rows c.args.row.now c.args.first c.args.ends.now c.requires.past done,
)

pub loop-k-preserved : goal.loop-k-preserved
loop-k-preserved c =
    let end = c.period_start-end.ensures in (
      end,
      λ rows done.
          noted_next c.args.scale c.args.task.now c.args._number rows c.args.row.now c.loop-k.k c.later_end.result c.loop-k.ends c.requires.own
          (omega (arith, c.loop-k-test.true, c.loop-k.auto.ends))
          (subst (λ n. n < c.args.row.now.end) c.loop-k.invariant.0 c.if-begin-row.false)
          (rw (← end) c.later_end.ensures.early)
          (rw (← end) c.later_end.ensures.late)
          (c.loop-k.invariant.1 rows done),
    )

pub returns-then-begin-row : goal.returns-then-begin-row
returns-then-begin-row c = λ rows done.
    noted_stop c.args.scale c.args.task.now c.args._number rows c.args.row.now c.loop-k.k c.loop-k.ends
    (subst (λ n. c.args.row.now.end ≤ n) c.loop-k.invariant.0 c.if-begin-row.true) (c.loop-k.invariant.1 rows done)

pub returns : goal.returns
returns c = λ rows done.
    noted_all c.args.scale c.args.task.now c.args._number rows c.args.row.now c.loop-k.k c.loop-k.ends (omega (
      arith,
      c.loop-k-test.false,
      c.loop-k.auto.ends,
    )) (c.loop-k.invariant.1 rows done)
