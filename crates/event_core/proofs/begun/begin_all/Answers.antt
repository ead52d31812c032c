use Rattle.std.proofs.Common.{arith, ap, length, refl, subst, sym, ◌∙◌, List, ℕ, Bool}
use Rattle.run_tree.specs.Tree.{IsMember}
use Rattle.event_core.proofs.BegunLemmas.{begun_none, begun_step, begun_places, begun_of}
use Rattle.event_core.proofs.begun.begin_all.Goals as goal

pub loop-k-init : goal.loop-k-init
loop-k-init c = (
  refl,
  refl,
  begun_none c.args.plan.now.tree c.args.calendar.now.begins c.args.calendar.now.ends c.args.calendar.now.begun
      c.args.dues.now.remains c.args.ready.now c.args.stale.now,
)

pub begin_one-requires-clause-member : goal.begin_one-requires-clause-member
begin_one-requires-clause-member c =
    let n = c.begun_count-k-end.ensures in
    let b = c.loop-k-test.true in
    subst (λ (x : ℕ). IsMember c.args.plan.now.tree x) (sym c.begun.ensures) (c.requires.members c.loop-k.k (omega (arith, n, b)))

pub begin_one-requires-clause-place : goal.begin_one-requires-clause-place
begin_one-requires-clause-place c =
    let n = c.begun_count-k-end.ensures in
    let b = c.loop-k-test.true in
    let member = subst (λ (x : ℕ). IsMember c.args.plan.now.tree x) (sym c.begun.ensures) (c.requires.members c.loop-k.k (omega (arith, n, b))) in
    begun_places c.args.plan.now.tree c.args.ready.now c.loop-k.ready c.begun.result.0 c.loop-k.invariant.2.long (c.requires.places c.begun.result.0 member)

pub begin_one-requires-clause-early : goal.begin_one-requires-clause-early
begin_one-requires-clause-early c = let e = c.requires.early in let s = c.loop-k.invariant.0 in omega (arith, e, s)

pub begin_one-requires-clause-stale : goal.begin_one-requires-clause-stale
begin_one-requires-clause-stale c = c.loop-k.invariant.2.as_many ∙ c.requires.stale

pub begin_one-requires-clause-nodes : goal.begin_one-requires-clause-nodes
begin_one-requires-clause-nodes c = ap (λ (rs : List Bool). length rs) c.loop-k.invariant.1 ∙ c.requires.nodes

pub loop-k-preserved : goal.loop-k-preserved
loop-k-preserved c =
    let p = c.args.plan.now in
    let n = c.begun_count-k-end.ensures in
    let b = c.loop-k-test.true in
    let member = subst (λ (x : ℕ). IsMember p.tree x) (sym c.begun.ensures) (c.requires.members c.loop-k.k (omega (arith, n, b))) in
    let remains = c.requires.remains in
    let remains' = c.loop-k.invariant.2.same in
    let ready = c.requires.ready in
    let ready' = c.loop-k.auto.ready in
    let stale = c.requires.stale in
    let stale' = c.loop-k.invariant.2.as_many in (
      c.begin_one.ensures.tick ∙ c.loop-k.invariant.0,
      c.begin_one.ensures.runs ∙ c.loop-k.invariant.1,
      begun_step p.tree c.requires.plan.tree.tree c.args.calendar.now.begins c.args.calendar.now.ends c.args.calendar.now.begun c.args.dues.now.remains
          c.args.ready.now c.args.stale.now c.loop-k.dues.remains c.loop-k.ready c.loop-k.stale
          c.begin_one.new.dues.remains c.begin_one.new.ready c.begin_one.new.stale c.loop-k.k c.begun.result.0 member c.begun.ensures
          (omega (arith, remains, remains')) (omega (arith, ready, ready')) (omega (arith, stale, stale'))
          (begun_places p.tree c.args.ready.now c.loop-k.ready c.begun.result.0 c.loop-k.invariant.2.long (c.requires.places c.begun.result.0 member))
          c.begin_one.ensures.remains c.begin_one.ensures.ready c.begin_one.ensures.stale c.loop-k.invariant.2,
    )

pub returns-clause-begun : goal.returns-clause-begun
returns-clause-begun c =
    let t = c.args.plan.now.tree in
    begun_of t c.args.calendar.now.begins c.args.calendar.now.ends c.args.calendar.now.begun c.args.dues.now.remains c.args.ready.now c.args.stale.now
    c.loop-k.dues.remains c.loop-k.ready c.loop-k.stale c.loop-k.k _ (omega (arith, c.begun_count-k-end.ensures)) c.loop-k.invariant.2
