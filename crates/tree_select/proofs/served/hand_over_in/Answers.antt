use Rattle.std.proofs.Common.{ap, arith, false, length, subst, ℕ, Bool, List, Option, ◌≡◌, ◌∙◌}
use Rattle.std.proofs.Math.ListN.{set}
use Rattle.std.proofs.lemmas.List.{length-set}
use Rattle.run_tree.specs.Tree.{Tree}
use Rattle.tree_select.specs.Marked.{IsHanded}
use Rattle.tree_select.proofs.ServedLemmas.{handed_served, handed_unmarked, handed_mark, handed_marks}
use Rattle.tree_select.proofs.served.hand_over_in.Goals as goal

-- the pack is handed on where its mark is gone
handed : (t : Tree) (p : ℕ) (o : Option ℕ) (stale fewer runs stale' runs' : List Bool) → fewer ≡ set stale p false → IsHanded t p o fewer runs stale' runs'
    → IsHanded t p o (set stale p false) runs stale' runs'
handed t p o stale fewer runs stale' runs' is x = subst (λ (s : List Bool). IsHanded t p o s runs stale' runs') is x

pub unmark-requires : goal.unmark-requires
unmark-requires c = let b = c.requires.pack.0 in let long = c.requires.stale in omega (arith, b, long)

pub hand_on-is_other-requires-clause-stale : goal.hand_on-is_other-requires-clause-stale
hand_on-is_other-requires-clause-stale c = ap (λ (xs : List Bool). length xs) c.unmark.ensures ∙ length-set c.args.stale.now c.args.p.0 false ∙ c.requires.stale

pub returns-clause-long : goal.returns-clause-long
returns-clause-long c = (handed _ _ _ _ _ _ _ _ c.unmark.ensures c.hand_on-is_other.ensures.handed).long ∙ length-set c.args.stale.now c.args.p.0 false

pub returns-clause-served : goal.returns-clause-served
returns-clause-served c = λ remains ends is served.
    let long = c.requires.stale in
    let b = c.requires.pack.0 in
    handed_served c.args.tree.now c.requires.tree remains ends c.args.p.0 c.args.chosen c.args.stale.now c.args.runs.now c.hand_on-is_other.new.stale
    c.hand_on-is_other.new.runs c.requires.pack (omega (arith, b, long))
    (subst (λ (o : Option ℕ). IsHanded c.args.tree.now c.args.p.0 o (set c.args.stale.now c.args.p.0 false) c.args.runs.now c.hand_on-is_other.new.stale
    c.hand_on-is_other.new.runs) c.served_by-place.ensures.value (handed _ _ _ _ _ _ _ _ c.unmark.ensures c.hand_on-is_other.ensures.handed)) is served

pub returns-clause-unmarked : goal.returns-clause-unmarked
returns-clause-unmarked c = λ q j ne off.
    handed_unmarked c.args.tree.now c.requires.tree c.args.p.0 c.served_by-place.result c.args.stale.now c.args.runs.now c.hand_on-is_other.new.stale
    c.hand_on-is_other.new.runs (handed _ _ _ _ _ _ _ _ c.unmark.ensures c.hand_on-is_other.ensures.handed) q j ne off

pub returns-clause-unchanged : goal.returns-clause-unchanged
returns-clause-unchanged c = λ q j off. (c.hand_on-is_other.ensures.handed.unmarked q j off).1

pub returns-clause-within : goal.returns-clause-within
returns-clause-within c = λ j is. c.requires.chosen j (c.served_by-place.ensures.within j is)

pub returns-clause-result : goal.returns-clause-result
returns-clause-result c = c.served_by-place.ensures.value

pub returns-clause-now : goal.returns-clause-now
returns-clause-now c = c.hand_on-is_other.ensures.handed.each

pub returns-clause-led : goal.returns-clause-led
returns-clause-led c = c.hand_on-is_other.ensures.handed.led c.requires.led

pub returns-clause-others : goal.returns-clause-others
returns-clause-others c = c.hand_on-is_other.ensures.handed.others

pub returns-clause-own : goal.returns-clause-own
returns-clause-own c =
    let long = c.requires.stale in
    let b = c.requires.pack.0 in
    handed_mark c.args.tree.now c.requires.tree c.args.p.0 c.served_by-place.result c.args.stale.now c.args.runs.now c.hand_on-is_other.new.stale
    c.hand_on-is_other.new.runs c.requires.pack (omega (arith, b, long)) (handed _ _ _ _ _ _ _ _ c.unmark.ensures c.hand_on-is_other.ensures.handed)

pub returns-clause-marks : goal.returns-clause-marks
returns-clause-marks c = handed_marks c.args.tree.now c.requires.tree c.args.p.0 c.served_by-place.result c.args.stale.now c.args.runs.now
    c.hand_on-is_other.new.stale c.hand_on-is_other.new.runs (handed _ _ _ _ _ _ _ _ c.unmark.ensures c.hand_on-is_other.ensures.handed)

pub bounds-runs-p : goal.bounds-runs-p
bounds-runs-p c = let b = c.requires.pack.0 in let long = c.requires.runs in omega (arith, b, long)

pub hand_on-is_other-requires-clause-tree : goal.hand_on-is_other-requires-clause-tree
hand_on-is_other-requires-clause-tree c = c.requires.tree

pub hand_on-is_other-requires-clause-pack : goal.hand_on-is_other-requires-clause-pack
hand_on-is_other-requires-clause-pack c = c.requires.pack

pub hand_on-is_other-requires-clause-was : goal.hand_on-is_other-requires-clause-was
hand_on-is_other-requires-clause-was c = c.requires.was

pub hand_on-is_other-requires-clause-runs : goal.hand_on-is_other-requires-clause-runs
hand_on-is_other-requires-clause-runs c = c.requires.runs

pub hand_on-is_other-requires-clause-before : goal.hand_on-is_other-requires-clause-before
hand_on-is_other-requires-clause-before c = c.requires.within

pub hand_on-is_other-requires-clause-before_at : goal.hand_on-is_other-requires-clause-before_at
hand_on-is_other-requires-clause-before_at c = c.node_at-before.ensures

pub hand_on-is_other-requires-clause-after_at : goal.hand_on-is_other-requires-clause-after_at
hand_on-is_other-requires-clause-after_at c = c.node_at-node.ensures

pub returns-clause-node : goal.returns-clause-node
returns-clause-node c = c.node_at-node.ensures

pub returns-clause-before : goal.returns-clause-before
returns-clause-before c = c.node_at-before.ensures
