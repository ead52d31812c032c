use Rattle.std.proofs.Common.{arith, subst, refl, ℕ, ◌≡◌, ◌∙◌, sym, ◌-◌, ◌+◌}
use Rattle.tree_select.specs.Marked.{AreFreshFrom}
use Rattle.tree_select.proofs.SelectLemmas.{all_selected}
use Rattle.tree_select.proofs.MarkedLemmas.{fresh_top, led_right}
use Rattle.tree_select.proofs.refreshed.refresh_all.Goals as goal

pub loop-level-init : goal.loop-level-init
loop-level-init c = (
  omega (arith, c.levels-level.ensures.value),
  c.requires.led,
  c.requires.served,
  fresh_top c.args.tree.now c.levels-level.ensures.lawful.tree c.args.stale.now c.levels-level.result c.levels-level.ensures.value,
)

pub returns-clause-selected : goal.returns-clause-selected
returns-clause-selected c =
    let h = c.levels-level.ensures.lawful.tree in
    let none : c.loop-level.level ≡ 0 = omega arith in
    let fresh = subst (λ (l : ℕ). AreFreshFrom c.args.tree.now c.loop-level.stale l) none c.loop-level.invariant.3 in
    all_selected c.args.tree.now h c.args.remains.now c.args.ends.now c.loop-level.runs 0 refl
    (led_right c.args.tree.now h c.args.remains.now c.args.ends.now c.loop-level.stale c.loop-level.runs c.args.tree.now.levels 0 (omega arith)
    c.loop-level.invariant.1 c.loop-level.invariant.2 fresh)

pub returns-clause-led : goal.returns-clause-led
returns-clause-led c = c.loop-level.invariant.1

pub returns-clause-served : goal.returns-clause-served
returns-clause-served c stale p i off =
    let none : c.loop-level.level ≡ 0 = omega arith in
    let fresh = subst (λ (l : ℕ). AreFreshFrom c.args.tree.now c.loop-level.stale l) none c.loop-level.invariant.3 in
    c.loop-level.invariant.2 p i (fresh p i (omega arith))

pub refresh_level-requires-clause-tree : goal.refresh_level-requires-clause-tree
refresh_level-requires-clause-tree c = c.levels-level.ensures.lawful.tree

pub refresh_level-requires-clause-remains : goal.refresh_level-requires-clause-remains
refresh_level-requires-clause-remains c = c.requires.remains

pub refresh_level-requires-clause-ends : goal.refresh_level-requires-clause-ends
refresh_level-requires-clause-ends c = c.requires.ends

pub refresh_level-requires-clause-stale : goal.refresh_level-requires-clause-stale
refresh_level-requires-clause-stale c = c.loop-level.auto.stale ∙ c.requires.stale

pub refresh_level-requires-clause-runs : goal.refresh_level-requires-clause-runs
refresh_level-requires-clause-runs c = c.loop-level.auto.runs ∙ c.requires.runs

pub loop-level-smaller : goal.loop-level-smaller
loop-level-smaller c = let on = c.loop-level-test.true in omega (arith, on)

pub refresh_level-requires-clause-led : goal.refresh_level-requires-clause-led
refresh_level-requires-clause-led c = c.loop-level.invariant.1

pub refresh_level-requires-clause-served : goal.refresh_level-requires-clause-served
refresh_level-requires-clause-served c = c.loop-level.invariant.2

pub refresh_level-requires-clause-level : goal.refresh_level-requires-clause-level
refresh_level-requires-clause-level c = let most = c.loop-level.invariant.0 in let on = c.loop-level-test.true in omega (arith, most, on)

pub refresh_level-requires-clause-above : goal.refresh_level-requires-clause-above
refresh_level-requires-clause-above c =
    let on = c.loop-level-test.true in
    let one : c.loop-level.level - 1 + 1 ≡ c.loop-level.level = omega (arith, on) in
    subst (λ (l : ℕ). AreFreshFrom c.args.tree.now c.loop-level.stale l) (sym one) c.loop-level.invariant.3
