use Rattle.std.proofs.Common.{get_or, arith}
use Rattle.std.proofs.lemmas.Option.{slice_get-get_or}
use Rattle.sched_base.specs.declared.rows.Leaf.TheVariants.{Task}
use Rattle.sched_base.specs.declared.rows.Row.{Row}
use Rattle.book_steps.proofs.PendingLemmas.{AreCounted-all, AreCounted-next, AreCounted-none, can_add}
use Rattle.book_steps.proofs.pending.count_each.Goals as goal

abbrev blank : Row
blank = record { processor = 0; leaf = Task (record { 0 = 0 }); start = 0; end = 0 }

pub loop-q-init : goal.loop-q-init
loop-q-init c = AreCounted-none c.args.given.now.items

pub add_ticks-requires-clause-forward : goal.add_ticks-requires-clause-forward
add_ticks-requires-clause-forward c =
    let rows = c.args.rows.now in
    c.requires.forward c.loop-q.q (get_or rows c.loop-q.q blank) (slice_get-get_or rows c.loop-q.q blank c.loop-q-test.true)

pub add_ticks-requires-clause-task : goal.add_ticks-requires-clause-task
add_ticks-requires-clause-task c = λ task is.
    let rows = c.args.rows.now in
    (can_add c.args.given.now.items rows c.requires c.loop-q.q c.loop-q.given.items c.loop-q.invariant (get_or rows c.loop-q.q blank) (slice_get-get_or rows
    c.loop-q.q blank c.loop-q-test.true) task is).0

pub add_ticks-requires-clause-fits : goal.add_ticks-requires-clause-fits
add_ticks-requires-clause-fits c = λ task is.
    let rows = c.args.rows.now in
    (can_add c.args.given.now.items rows c.requires c.loop-q.q c.loop-q.given.items c.loop-q.invariant (get_or rows c.loop-q.q blank) (slice_get-get_or rows
    c.loop-q.q blank c.loop-q-test.true) task is).1

pub loop-q-preserved : goal.loop-q-preserved
loop-q-preserved c =
    let rows = c.args.rows.now in
    rw c.add_ticks.ensures (AreCounted-next c.args.given.now.items rows c.requires c.loop-q.q c.loop-q.given.items c.loop-q.invariant
    (get_or rows c.loop-q.q blank) (slice_get-get_or rows c.loop-q.q blank c.loop-q-test.true))

pub returns : goal.returns
returns c = AreCounted-all c.args.given.now.items c.args.rows.now c.loop-q.q c.loop-q.given.items (let end = c.loop-q-test.false in omega (arith, end))
    c.loop-q.invariant
