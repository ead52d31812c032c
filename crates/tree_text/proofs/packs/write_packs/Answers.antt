use Rattle.std.proofs.Common.{◌<◌, ◌≤◌, ℕ, List, length, sym, subst, arith}
use Rattle.sched_edges.proofs.Wrote.{item_written, wrote_item}
use Rattle.run_tree.specs.Tree.{IsPack}
use Rattle.run_tree.specs.Schedule.{packs_at}
use Rattle.tree_text.specs.Text.{pack_line}
use Rattle.sched_edges.proofs.CauseLemmas.{cause_cut}
use Rattle.tree_text.proofs.PieceLemmas.{items_done}
use Rattle.tree_text.proofs.SearchLemmas.{pack_of_level, pack_at_place}
use Rattle.tree_text.proofs.packs.write_packs.Goals as goal

pub write_pack-requires : goal.write_pack-requires
write_pack-requires g c =
    let tree = c.args.plan.now.tree in
    let count = rw c.tree.ensures.value at c.packs-i-end.ensures in
    let within : c.loop-i.i < length (packs_at tree c.args.level) = omega (arith, count, c.loop-i-test.true) in
    let is = rw c.tree-in-loop-i.ensures.value at c.pack.ensures in
    subst (IsPack tree) (sym is) (pack_of_level tree c.args.level c.loop-i.i within)

pub returns-in_err-write_pack-clause-wrote : goal.returns-in_err-write_pack-clause-wrote
returns-in_err-write_pack-clause-wrote g c =
    let tree = c.args.plan.now.tree in
    let count = rw c.tree.ensures.value at c.packs-i-end.ensures in
    let within : c.loop-i.i < length (packs_at tree c.args.level) = omega (arith, count, c.loop-i-test.true) in
    let is = rw c.tree-in-loop-i.ensures.value at c.pack.ensures in
    let at = pack_at_place tree c.args.level c.loop-i.i c.pack.result.0 within is in
    wrote_item (pack_line c.args.plan.now) (packs_at tree c.args.level) c.loop-i.i c.pack.result.0 _ _ _ _ _ within at c.loop-i.invariant.0
    c.in_err-write_pack.ensures.wrote c.from_residual.ensures.0

pub loop-i-preserved : goal.loop-i-preserved
loop-i-preserved g c =
    let tree = c.args.plan.now.tree in
    let count = rw c.tree.ensures.value at c.packs-i-end.ensures in
    let within : c.loop-i.i < length (packs_at tree c.args.level) = omega (arith, count, c.loop-i-test.true) in
    let is = rw c.tree-in-loop-i.ensures.value at c.pack.ensures in
    let at = pack_at_place tree c.args.level c.loop-i.i c.pack.result.0 within is in
    let before = c.loop-i.invariant.1 in
    let later = c.write_pack.ensures.cause.later in (
      item_written (pack_line c.args.plan.now) (packs_at tree c.args.level) c.loop-i.i c.pack.result.0 _ _ _ within at c.loop-i.invariant.0
          c.in_ok-write_pack.ensures.wrote.ok,
      omega (arith, before, later),
    )

pub returns-in_err-write_pack-clause-cause : goal.returns-in_err-write_pack-clause-cause
returns-in_err-write_pack-clause-cause g c = cause_cut _ _ _ _ _ c.loop-i.invariant.1 c.in_err-write_pack.ensures.cause

pub returns-clause-wrote : goal.returns-clause-wrote
returns-clause-wrote g c =
    let packs : List ℕ = packs_at c.args.plan.now.tree c.args.level in
    let count = rw c.tree.ensures.value at c.packs-i-end.ensures in
    let all : length packs ≤ c.loop-i.i = omega (arith, count, c.loop-i-test.false) in
    items_done (pack_line c.args.plan.now) packs c.loop-i.i _ _ _ all c.loop-i.invariant.0

pub returns-clause-cause : goal.returns-clause-cause
returns-clause-cause g c = record { later = c.loop-i.invariant.1; failed = tt }
