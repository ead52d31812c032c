use Rattle.std.proofs.Common.{arith, refl, subst, ℕ, List, ◌≡◌, ◌∙◌, sym, ◌-◌, ◌+◌}
use Rattle.tree_select.specs.Marked.{AreFreshFrom, AreServed}
use Rattle.tree_select.proofs.SelectLemmas.{all_selected}
use Rattle.tree_select.proofs.MarkedLemmas.{fresh_top, led_right}
use Rattle.event_core.proofs.FirstLevel.{some_level}
use Rattle.event_core.proofs.SeenLemmas.{seen_since}
use Rattle.event_core.proofs.WalkLemmas.{fitting_still}
use Rattle.event_core.proofs.walks.serve_all.Goals as goal

pub loop-level-init : goal.loop-level-init
loop-level-init c =
    let t = c.args.tree.now in
    let h = c.levels-level.ensures.lawful.tree in
    let is = c.levels-level.ensures.value in
    let some = some_level t h c.levels-level.ensures.lawful.sized.some_processors in (
      omega (arith, is),
      refl,
      refl,
      refl,
      c.requires.serving,
      fresh_top t h c.args.stale.now c.levels-level.result is,
      omega (arith, some, is),
      c.requires.settled,
      λ k l. refl,
      refl,
    )

pub serve_level-requires-clause-long : goal.serve_level-requires-clause-long
serve_level-requires-clause-long c = record {
  dues = c.loop-level.invariant.3 ∙ c.requires.long.dues;
  ready = c.requires.long.ready;
  serves = c.loop-level.auto.serves ∙ c.requires.long.serves;
  stale = c.loop-level.invariant.9 ∙ c.requires.long.stale;
  runs = c.loop-level.auto.runs ∙ c.requires.long.runs;
}

pub serve_level-requires-clause-serving : goal.serve_level-requires-clause-serving
serve_level-requires-clause-serving c = c.loop-level.invariant.4

pub serve_level-requires-clause-fits : goal.serve_level-requires-clause-fits
serve_level-requires-clause-fits c = fitting_still c.args.tree.now c.args.dues.now c.loop-level.dues c.loop-level.invariant.1 c.loop-level.invariant.2
    c.requires.fits

pub loop-level-preserved : goal.loop-level-preserved
loop-level-preserved c =
    let most = c.loop-level.invariant.0 in
    let on = c.loop-level-test.true in (
      omega (arith, most, on),
      c.serve_level.ensures.tick ∙ c.loop-level.invariant.1,
      c.serve_level.ensures.remains ∙ c.loop-level.invariant.2,
      c.serve_level.ensures.nodes ∙ c.loop-level.invariant.3,
      c.serve_level.ensures.serving,
      c.serve_level.ensures.fresh,
      omega (arith, on),
      c.serve_level.ensures.settled c.args.places.now.onto c.loop-level.invariant.7,
      λ k l. c.serve_level.ensures.first k l ∙ c.loop-level.invariant.8 k l,
      c.serve_level.ensures.long ∙ c.loop-level.invariant.9,
    )

pub serve_first_level-requires-clause-long : goal.serve_first_level-requires-clause-long
serve_first_level-requires-clause-long c = record {
  dues = c.loop-level.invariant.3 ∙ c.requires.long.dues;
  ready = c.requires.long.ready;
  serves = c.loop-level.auto.serves ∙ c.requires.long.serves;
  stale = c.loop-level.invariant.9 ∙ c.requires.long.stale;
  runs = c.loop-level.auto.runs ∙ c.requires.long.runs;
}

pub serve_first_level-requires-clause-serving : goal.serve_first_level-requires-clause-serving
serve_first_level-requires-clause-serving c = c.loop-level.invariant.4

pub serve_first_level-requires-clause-settled : goal.serve_first_level-requires-clause-settled
serve_first_level-requires-clause-settled c = c.loop-level.invariant.7

pub serve_first_level-requires-clause-levels : goal.serve_first_level-requires-clause-levels
serve_first_level-requires-clause-levels c = let most = c.loop-level.invariant.0 in let some = c.loop-level.invariant.6 in omega (arith, most, some)

pub serve_first_level-requires-clause-fits : goal.serve_first_level-requires-clause-fits
serve_first_level-requires-clause-fits c = fitting_still c.args.tree.now c.args.dues.now c.loop-level.dues c.loop-level.invariant.1 c.loop-level.invariant.2
    c.requires.fits

pub serve_first_level-requires-clause-above : goal.serve_first_level-requires-clause-above
serve_first_level-requires-clause-above c =
    let some = c.loop-level.invariant.6 in
    let off = c.loop-level-test.false in
    let one : c.loop-level.level ≡ 1 = omega (arith, some, off) in
    subst (λ (l : ℕ). AreFreshFrom c.args.tree.now c.loop-level.stale l) one c.loop-level.invariant.5

pub returns-clause-selected : goal.returns-clause-selected
returns-clause-selected c =
    let t = c.args.tree.now in
    let h = c.levels-level.ensures.lawful.tree in
    let remains = c.serve_first_level.ensures.remains ∙ c.loop-level.invariant.2 in
    let served = subst (λ (rs : List ℕ). AreServed t rs c.args.ends.now c.serve_first_level.new.stale c.serve_first_level.new.runs) remains
    c.serve_first_level.ensures.serving.served in
    all_selected t h c.args.dues.now.remains c.args.ends.now c.serve_first_level.new.runs 0 refl
    (led_right t h c.args.dues.now.remains c.args.ends.now c.serve_first_level.new.stale c.serve_first_level.new.runs t.levels 0 (omega arith)
    c.serve_first_level.ensures.serving.led served c.serve_first_level.ensures.fresh)

pub returns-clause-seen : goal.returns-clause-seen
returns-clause-seen c = seen_since c.args.tree.now c.args.serves.now c.loop-level.serves c.serve_first_level.new.serves c.serve_first_level.new.changes
    c.loop-level.invariant.8 c.serve_first_level.ensures.seen

pub returns-clause-tick : goal.returns-clause-tick
returns-clause-tick c = c.serve_first_level.ensures.tick ∙ c.loop-level.invariant.1

pub returns-clause-remains : goal.returns-clause-remains
returns-clause-remains c = c.serve_first_level.ensures.remains ∙ c.loop-level.invariant.2

pub returns-clause-nodes : goal.returns-clause-nodes
returns-clause-nodes c = c.serve_first_level.ensures.nodes ∙ c.loop-level.invariant.3

pub returns-clause-long : goal.returns-clause-long
returns-clause-long c = c.serve_first_level.ensures.long ∙ c.loop-level.invariant.9

pub returns-clause-serving : goal.returns-clause-serving
returns-clause-serving c = c.serve_first_level.ensures.serving

pub serve_level-requires-clause-masks : goal.serve_level-requires-clause-masks
serve_level-requires-clause-masks c = c.requires.masks

pub serve_level-requires-clause-tree : goal.serve_level-requires-clause-tree
serve_level-requires-clause-tree c = c.levels-level.ensures.lawful.tree

pub serve_level-requires-clause-level : goal.serve_level-requires-clause-level
serve_level-requires-clause-level c = let most = c.loop-level.invariant.0 in let on = c.loop-level-test.true in omega (arith, most, on)

pub serve_level-requires-clause-above_first : goal.serve_level-requires-clause-above_first
serve_level-requires-clause-above_first c = let on = c.loop-level-test.true in omega (arith, on)

pub serve_level-requires-clause-above : goal.serve_level-requires-clause-above
serve_level-requires-clause-above c = let on = c.loop-level-test.true in let one : c.loop-level.level - 1 + 1 ≡ c.loop-level.level = omega (arith, on) in
    subst (λ (l : ℕ). AreFreshFrom c.args.tree.now c.loop-level.stale l) (sym one) c.loop-level.invariant.5

pub loop-level-smaller : goal.loop-level-smaller
loop-level-smaller c = let on = c.loop-level-test.true in omega (arith, on)

pub serve_first_level-requires-clause-masks : goal.serve_first_level-requires-clause-masks
serve_first_level-requires-clause-masks c = c.requires.masks

pub serve_first_level-requires-clause-tree : goal.serve_first_level-requires-clause-tree
serve_first_level-requires-clause-tree c = c.levels-level.ensures.lawful.tree

pub serve_first_level-requires-clause-last : goal.serve_first_level-requires-clause-last
serve_first_level-requires-clause-last c = c.requires.last

pub serve_first_level-requires-clause-room : goal.serve_first_level-requires-clause-room
serve_first_level-requires-clause-room c = c.requires.room

pub returns-clause-fresh : goal.returns-clause-fresh
returns-clause-fresh c = c.serve_first_level.ensures.fresh

pub returns-clause-changed : goal.returns-clause-changed
returns-clause-changed c = c.serve_first_level.ensures.changed

pub returns-clause-room : goal.returns-clause-room
returns-clause-room c = c.serve_first_level.ensures.room
