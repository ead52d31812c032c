use Rattle.std.proofs.Common.{◌≡◌, ℕ, ap, arith, get_or, length, refl, set, subst}
use Rattle.merged_rows.proofs.ChangedLemmas.{on_none, on_step}
use Rattle.merged_rows.specs.Columns.{AreGoingOn}
use Rattle.merged_rows.proofs.merging.show_changed.Goals as goal

pub loop-k-init : goal.loop-k-init
loop-k-init c = on_none c.args.lanes.now c.args.start c.args.changed.now c.args.told.now

pub loop-k-preserved : goal.loop-k-preserved
loop-k-preserved c =
    let p = get_or c.args.changed.now c.loop-k.k 0 in
    let on = c.loop-k-test.true in
    let within = c.requires.within c.loop-k.k (omega (arith, on)) in
    let whole = c.requires.whole in
    on_step c.args.lanes.now c.args.start c.args.changed.now c.args.told.now c.loop-k.lanes _ c.loop-k.k p _ _ refl within whole (ap (set c.loop-k.lanes p)
    c.in_ok-go_on.ensures.shown) c.loop-k.invariant

pub returns : goal.returns
returns c =
    let all : c.loop-k.k ≡ length c.args.changed.now = omega arith in
    record { shown = subst (λ (n : ℕ). AreGoingOn c.args.lanes.now c.args.start c.args.changed.now c.args.told.now c.loop-k.lanes n) all c.loop-k.invariant }
