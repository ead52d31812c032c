use Rattle.std.proofs.Common.{arith, ◌∙◌}
use Rattle.tree_select.proofs.MarkedLemmas.{fresh_none, fresh_step, fresh_all}
use Rattle.tree_select.proofs.refreshed.refresh_level.Goals as goal

pub loop-i-init : goal.loop-i-init
loop-i-init c = (c.requires.led, c.requires.served, fresh_none c.args.tree.now c.requires.tree c.args.stale.now c.args.level c.requires.above)

pub loop-i-preserved : goal.loop-i-preserved
loop-i-preserved c = (
  c.refresh.ensures.led,
  c.refresh.ensures.served,
  fresh_step c.args.tree.now c.requires.tree c.loop-i.stale c.refresh.new.stale c.args.level c.loop-i.i c.pack_of-p.result.0
      (let n = c.packs-i-end.ensures in let b = c.loop-i-test.true in omega (arith, n, b)) c.pack_of-p.ensures.value
      c.loop-i.invariant.2 c.refresh.ensures.own c.refresh.ensures.marks,
)

pub returns-clause-fresh : goal.returns-clause-fresh
returns-clause-fresh c =
    fresh_all c.args.tree.now c.requires.tree c.loop-i.stale c.args.level c.loop-i.i (omega (arith, c.packs-i-end.ensures)) c.loop-i.invariant.2

pub packs-i-end-requires : goal.packs-i-end-requires
packs-i-end-requires c = c.requires.level

pub pack_of-p-requires-clause-tree : goal.pack_of-p-requires-clause-tree
pack_of-p-requires-clause-tree c = c.requires.tree

pub pack_of-p-requires-clause-level : goal.pack_of-p-requires-clause-level
pack_of-p-requires-clause-level c = c.requires.level

pub refresh-requires-clause-tree : goal.refresh-requires-clause-tree
refresh-requires-clause-tree c = c.requires.tree

pub refresh-requires-clause-pack : goal.refresh-requires-clause-pack
refresh-requires-clause-pack c = c.pack_of-p.ensures.pack

pub refresh-requires-clause-remains : goal.refresh-requires-clause-remains
refresh-requires-clause-remains c = c.requires.remains

pub refresh-requires-clause-ends : goal.refresh-requires-clause-ends
refresh-requires-clause-ends c = c.requires.ends

pub refresh-requires-clause-stale : goal.refresh-requires-clause-stale
refresh-requires-clause-stale c = c.loop-i.auto.stale ∙ c.requires.stale

pub refresh-requires-clause-runs : goal.refresh-requires-clause-runs
refresh-requires-clause-runs c = c.loop-i.auto.runs ∙ c.requires.runs

pub refresh-requires-clause-led : goal.refresh-requires-clause-led
refresh-requires-clause-led c = c.loop-i.invariant.0

pub refresh-requires-clause-served : goal.refresh-requires-clause-served
refresh-requires-clause-served c = c.loop-i.invariant.1

pub returns-clause-led : goal.returns-clause-led
returns-clause-led c = c.loop-i.invariant.0

pub returns-clause-served : goal.returns-clause-served
returns-clause-served c = c.loop-i.invariant.1

pub pack_of-p-requires-clause-pack : goal.pack_of-p-requires-clause-pack
pack_of-p-requires-clause-pack c = let n = c.packs-i-end.ensures in let on = c.loop-i-test.true in omega (arith, n, on)
