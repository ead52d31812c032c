use Rattle.std.proofs.Common.{arith, refl, ◌<◌, length}
use Rattle.run_tree.specs.Schedule.{packs_at}
use Rattle.tree_select.proofs.LevelLemmas.{is_pack_at}
use Rattle.tree_select.proofs.PlaceLemmas.{others_keep, placed_more}
use Rattle.tree_select.proofs.masks.place_level.Goals as goal

pub loop-i-init : goal.loop-i-init
loop-i-init c = (λ k m. absurd (omega (arith, m)), λ n ne. refl)

pub bounds-places-pack : goal.bounds-places-pack
bounds-places-pack c =
    let on = c.loop-i-test.true in
    let many = c.packs-i-end.ensures in
    let b = (is_pack_at c.args.tree.now c.requires.tree c.args.level c.loop-i.i c.pack.result.0 (omega (arith, on, many)) c.pack.ensures).0 in
    let long = c.requires.long in
    let same = c.loop-i.auto.places in
    omega (arith, b, long, same)

pub loop-i-preserved : goal.loop-i-preserved
loop-i-preserved c =
    let t = c.args.tree.now in
    let on = c.loop-i-test.true in
    let many = c.packs-i-end.ensures in
    let here : c.loop-i.i < length (packs_at t c.args.level) = omega (arith, on, many) in
    let b = (is_pack_at t c.requires.tree c.args.level c.loop-i.i c.pack.result.0 here c.pack.ensures).0 in
    let long = c.requires.long in
    let same = c.loop-i.auto.places in (
      placed_more t c.args.level c.loop-i.i c.pack.result.0 c.loop-i.places here c.pack.ensures (omega (arith, b, long, same)) c.loop-i.invariant.0,
      others_keep t c.requires.tree c.args.level c.loop-i.i c.pack.result.0 c.args.places.now c.loop-i.places here c.pack.ensures c.loop-i.invariant.1,
    )

pub returns-clause-own : goal.returns-clause-own
returns-clause-own c = λ k m. let off = c.loop-i-test.false in let many = c.packs-i-end.ensures in c.loop-i.invariant.0 k (omega (arith, m, off, many))

pub returns-clause-others : goal.returns-clause-others
returns-clause-others c = c.loop-i.invariant.1
