use Rattle.std.proofs.Common.{arith, ap, length, refl, ◌∙◌, List, Bool}
use Rattle.std.specs.List.{range_with_len}
use Rattle.event_core.proofs.BegunLemmas.{begun_none, begun_places, begun_of}
use Rattle.event_core.proofs.FirstLemmas.{begun_next}
use Rattle.event_core.proofs.firsts.begin_first.Goals as goal

pub loop-x-init : goal.loop-x-init
loop-x-init c = (
  c.requires.first,
  refl,
  begun_none c.args.plan.now.tree c.args.calendar.now.begins c.args.calendar.now.ends
      (range_with_len 0 (length c.args.plan.now.tree.nodes)) c.args.dues.now.remains c.args.ready.now c.args.stale.now,
)

pub begin_if-requires-clause-stale : goal.begin_if-requires-clause-stale
begin_if-requires-clause-stale c = c.loop-x.invariant.2.as_many ∙ c.requires.stale

pub begin_if-requires-clause-nodes : goal.begin_if-requires-clause-nodes
begin_if-requires-clause-nodes c = ap (λ (rs : List Bool). length rs) c.loop-x.invariant.1 ∙ c.requires.nodes

pub begin_if-requires-clause-place : goal.begin_if-requires-clause-place
begin_if-requires-clause-place c = λ i. begun_places c.args.plan.now.tree c.args.ready.now c.loop-x.ready c.loop-x.x c.loop-x.invariant.2.long
    (c.requires.places c.loop-x.x i)

pub loop-x-preserved : goal.loop-x-preserved
loop-x-preserved c =
    let p = c.args.plan.now in
    let n = c.node_count-x-end.ensures in
    let b = c.loop-x-test.true in
    let remains = c.requires.remains in
    let remains' = c.loop-x.invariant.2.same in
    let ready = c.requires.ready in
    let ready' = c.loop-x.auto.ready in
    let stale = c.requires.stale in
    let stale' = c.loop-x.invariant.2.as_many in (
      c.begin_if.ensures.tick,
      c.begin_if.ensures.runs ∙ c.loop-x.invariant.1,
      begun_next p.tree c.requires.plan.tree.tree c.args.calendar.now.begins c.args.calendar.now.ends c.args.dues.now.remains c.args.ready.now
          c.args.stale.now c.loop-x.dues.remains c.loop-x.ready c.loop-x.stale
          c.begin_if.new.dues.remains c.begin_if.new.ready c.begin_if.new.stale c.loop-x.x (omega (arith, n, b)) (omega (arith, remains, remains'))
          (omega (arith, ready, ready')) (omega (arith, stale, stale'))
          c.requires.places c.begin_if.ensures.remains c.begin_if.ensures.ready c.begin_if.ensures.stale c.begin_if.ensures.pack c.loop-x.invariant.2,
    )

pub returns-clause-begun : goal.returns-clause-begun
returns-clause-begun c =
    begun_of c.args.plan.now.tree c.args.calendar.now.begins c.args.calendar.now.ends (range_with_len 0 (length c.args.plan.now.tree.nodes))
    c.args.dues.now.remains c.args.ready.now c.args.stale.now c.loop-x.dues.remains c.loop-x.ready c.loop-x.stale c.loop-x.x
    (length c.args.plan.now.tree.nodes)
    (omega (arith, c.node_count-x-end.ensures)) c.loop-x.invariant.2
