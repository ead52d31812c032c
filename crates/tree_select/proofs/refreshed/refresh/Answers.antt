use Rattle.std.proofs.Common.{arith, false, le_refl, ◌∙◌, refl}
use Rattle.tree_select.proofs.MarkedLemmas.{other_at, same_at}
use Rattle.tree_select.proofs.RefreshLemmas.{under_way_first, under_way_step, under_way_all}
use Rattle.tree_select.proofs.refreshed.refresh.Goals as goal

pub loop-k-init : goal.loop-k-init
loop-k-init c =
    under_way_first c.args.tree.now c.requires.tree c.args.remains.now c.args.ends.now c.args.p.0 c.pick-chosen.result c.args.stale.now c.args.runs.now
    c.requires.led c.requires.served

pub loop-k-preserved : goal.loop-k-preserved
loop-k-preserved c =
    under_way_step c.args.tree.now c.requires.tree c.args.remains.now c.args.ends.now c.args.p.0 c.loop-k.k c.id_of-m.result.0 _
    c.pick-chosen.result _ c.loop-k.stale c.loop-k.runs c.set_member.new.stale c.set_member.new.runs c.is_chosen.result
    c.requires.pack (let n = c.count_of-k-end.ensures in let b = c.loop-k-test.true in omega (arith, n, b)) c.id_of-m.ensures.value
    c.is_chosen.ensures c.set_member.ensures c.loop-k.invariant

pub returns-clause-served : goal.returns-clause-served
returns-clause-served c =
    under_way_all c.args.tree.now c.requires.tree c.args.remains.now c.args.ends.now c.args.p.0 c.loop-k.k _ c.pick-chosen.result _ c.loop-k.stale c.loop-k.runs
    (omega (arith, c.count_of-k-end.ensures)) c.pick-chosen.ensures c.loop-k.invariant

pub returns-clause-led : goal.returns-clause-led
returns-clause-led c = c.loop-k.invariant.led

pub returns-clause-own : goal.returns-clause-own
returns-clause-own c =
    let long = c.requires.stale in
    let b = c.requires.pack.0 in
    c.loop-k.invariant.marks c.args.p.0 c.requires.pack (le_refl _)
    ∙ same_at c.args.tree.now c.requires.tree c.args.stale.now c.args.p.0 false (omega (arith, b, long))

pub returns-clause-marks : goal.returns-clause-marks
returns-clause-marks c = λ q i ne low. c.loop-k.invariant.marks q i low ∙ other_at c.args.tree.now c.requires.tree c.args.stale.now c.args.p.0 q false ne

pub bounds-stale-p : goal.bounds-stale-p
bounds-stale-p c = let b = c.requires.pack.0 in let long = c.requires.stale in omega (arith, b, long)

pub bounds-runs-p : goal.bounds-runs-p
bounds-runs-p c = let b = c.requires.pack.0 in let long = c.requires.runs in omega (arith, b, long)

pub returns-then-not-stale-p-clause-led : goal.returns-then-not-stale-p-clause-led
returns-then-not-stale-p-clause-led c = c.requires.led

pub returns-then-not-stale-p-clause-served : goal.returns-then-not-stale-p-clause-served
returns-then-not-stale-p-clause-served c = c.requires.served

pub returns-then-not-stale-p-clause-marks : goal.returns-then-not-stale-p-clause-marks
returns-then-not-stale-p-clause-marks c = λ q i ne up. refl

pub pick-chosen-requires-clause-tree : goal.pick-chosen-requires-clause-tree
pick-chosen-requires-clause-tree c = c.requires.tree

pub pick-chosen-requires-clause-pack : goal.pick-chosen-requires-clause-pack
pick-chosen-requires-clause-pack c = c.requires.pack

pub pick-chosen-requires-clause-remains : goal.pick-chosen-requires-clause-remains
pick-chosen-requires-clause-remains c = c.requires.remains

pub pick-chosen-requires-clause-ends : goal.pick-chosen-requires-clause-ends
pick-chosen-requires-clause-ends c = c.requires.ends

pub count_of-k-end-requires : goal.count_of-k-end-requires
count_of-k-end-requires c = c.requires.pack.0

pub id_of-m-requires-clause-tree : goal.id_of-m-requires-clause-tree
id_of-m-requires-clause-tree c = c.requires.tree

pub id_of-m-requires-clause-pack : goal.id_of-m-requires-clause-pack
id_of-m-requires-clause-pack c = c.requires.pack

pub set_member-requires-clause-tree : goal.set_member-requires-clause-tree
set_member-requires-clause-tree c = c.requires.tree

pub set_member-requires-clause-member : goal.set_member-requires-clause-member
set_member-requires-clause-member c = c.id_of-m.ensures.member
