use Rattle.std.proofs.Common.{◌≡◌, ℕ, arith, length, subst}
use Rattle.merged_rounds.specs.Changes.{AreTold}
use Rattle.merged_rounds.proofs.ChangeLemmas.{told_none, told_step}
use Rattle.merged_rounds.proofs.changed.look_changed.Goals as goal

pub loop-k-init : goal.loop-k-init
loop-k-init c = told_none c.args.plan.now c.args.start c.args.source.now.tick c.args.changed.now c.args.told.now

pub loop-k-preserved : goal.loop-k-preserved
loop-k-preserved c =
    let on = c.loop-k-test.true in
    let w = c.requires.within c.loop-k.k (omega (arith, on)) in
    let long = c.requires.told in
    let kept = c.loop-k.auto.told in
    told_step c.args.plan.now c.args.start c.args.source.now.tick c.args.changed.now c.args.told.now c.loop-k.told c.loop-k.k c.leaf_by.result
    (omega (arith, w, long, kept)) c.leaf_by.ensures c.loop-k.invariant

pub returns : goal.returns
returns c =
    let all : c.loop-k.k ≡ length c.args.changed.now = omega arith in
    subst (λ (n : ℕ). AreTold c.args.plan.now c.args.start c.args.source.now.tick c.args.changed.now n c.args.told.now c.loop-k.told) all c.loop-k.invariant
