use Rattle.std.proofs.Common.{get_or, refl, arith}
use Rattle.std.proofs.lemmas.Option.{slice_get-get_or}
use Rattle.sched_base.specs.declared.rows.Leaf.TheVariants.{Task}
use Rattle.sched_base.specs.declared.rows.Row.{Row}
use Rattle.book_steps.proofs.PendingLemmas.{AreNoted-all, AreNoted-leaf, AreNoted-none}
use Rattle.book_steps.proofs.pending.note_each.Goals as goal

abbrev blank : Row
blank = record { processor = 0; leaf = Task (record { 0 = 0 }); start = 0; end = 0 }

pub loop-q-init : goal.loop-q-init
loop-q-init c = AreNoted-none c.args.tasks c.args.round c.args.last.now.items

pub note-requires : goal.note-requires
note-requires c = λ task is.
    let rows = c.args.rows.now in
    let low = c.requires c.loop-q.q (get_or rows c.loop-q.q blank) task (slice_get-get_or rows c.loop-q.q blank c.loop-q-test.true) is in
    let many = c.loop-q.invariant.many in
    omega (arith, low, many)

pub loop-q-preserved : goal.loop-q-preserved
loop-q-preserved c =
    let rows = c.args.rows.now in
    let row : Row = get_or rows c.loop-q.q blank in
    let at = slice_get-get_or rows c.loop-q.q blank c.loop-q-test.true in
    rw c.note.ensures (AreNoted-leaf c.args.tasks c.args.round c.args.last.now.items rows c.loop-q.q c.loop-q.last.items c.loop-q.invariant row at row.leaf refl
    (λ task is. let low = c.requires c.loop-q.q row task at is in let many = c.loop-q.invariant.many in omega (arith, low, many)))

pub returns : goal.returns
returns c = AreNoted-all c.args.tasks c.args.round c.args.last.now.items c.args.rows.now c.loop-q.q c.loop-q.last.items (let end = c.loop-q-test.false in
    omega (arith, end)) c.loop-q.invariant
