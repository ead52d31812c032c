use Rattle.std.proofs.Common.{◌≡◌, ◌<◌, ◌∙◌, ℕ, List, [], ap, arith, get_or, length, length-set, set, subst, sym}
use Rattle.sched_base.specs.declared.rows.Leaf.TheVariants.{Empty}
use Rattle.sched_base.specs.declared.rows.Row.{Row}
use Rattle.run_tree.specs.Tree.{Tree}
use Rattle.merged_rows.specs.Columns.{Begun, showing}
use Rattle.merged_rounds.specs.Copies.{AreCopied}
use Rattle.merged_rounds.proofs.CopyLemmas.{are_next, are_none}
use Rattle.merged_rounds.proofs.LapLemmas.{leaf_is}
use Rattle.merged_rounds.proofs.copies.copy_lanes.Goals as goal

pub loop-q-init : goal.loop-q-init
loop-q-init c = are_none c.args.plan.now c.args.now c.args.window c.args.rows.now.begun

pub show-requires : goal.show-requires
show-requires c =
    let procs = c.processors-q-end.ensures.value ∙ ap (λ (t : Tree). t.processors) c.tree.ensures.value in
    let on = c.loop-q-test.true in
    let end = c.loop-q.auto.q-end in
    let long = c.loop-q.invariant.long in
    let many = c.requires.many in
    let same = ap (λ (ls : List (List Begun)). length ls) c.go_to.ensures.begun in
    omega (arith, on, end, procs, long, many, same)

pub copy_lane-requires-clause-processor : goal.copy_lane-requires-clause-processor
copy_lane-requires-clause-processor c =
    let procs = c.processors-q-end.ensures.value ∙ ap (λ (t : Tree). t.processors) c.tree.ensures.value in
    let on = c.loop-q-test.true in
    let end = c.loop-q.auto.q-end in
    let long = c.loop-q.invariant.long in
    let many = c.requires.many in
    let same = ap (λ (ls : List (List Begun)). length ls) c.go_to.ensures.begun in
    let now = ap (λ (ls : List (List Begun)). length ls) c.in_ok-show.ensures.shown in
    let set_to = length-set c.go_to.new.self.begun c.loop-q.q (showing (get_or c.go_to.new.self.begun c.loop-q.q []) c.go_to.new.self.end c.leaf_on.result) in
    omega (arith, on, end, procs, long, many, same, now, set_to)

pub loop-q-preserved : goal.loop-q-preserved
loop-q-preserved c =
    let p = c.args.plan.now in
    let q = c.loop-q.q in
    let now = c.args.now in
    let leaf = c.leaf_on.result in
    let procs = c.processors-q-end.ensures.value ∙ ap (λ (t : Tree). t.processors) c.tree.ensures.value in
    let on = c.loop-q-test.true in
    let many = c.requires.many in
    let in_tree : q < p.tree.processors = omega (arith, on, procs) in
    let none : Row = record { processor = 0; start = 0; end = 0; leaf = Empty } in
    let is = sym (leaf_is p now c.args.source.now.tick q none in_tree) ∙ c.leaf_on.ensures none in
    let shows = c.in_ok-show.ensures.shown
    ∙ ap (λ n. set c.go_to.new.self.begun q (showing (get_or c.go_to.new.self.begun q []) n leaf)) c.go_to.ensures.end
    ∙ ap (λ (ls : List (List Begun)). set ls q (showing (get_or ls q []) now leaf)) c.go_to.ensures.begun in
    are_next p now c.args.window c.args.rows.now.begun c.loop-q.rows.begun _ _ q leaf c.loop-q.invariant (omega (arith, in_tree, many)) is shows
    c.in_ok-copy_lane.ensures.copied

pub returns : goal.returns
returns c =
    let procs = c.processors-q-end.ensures.value ∙ ap (λ (t : Tree). t.processors) c.tree.ensures.value in
    let off = c.loop-q-test.false in
    let end = c.loop-q.auto.q-end in
    let all : c.loop-q.q ≡ c.args.plan.now.tree.processors = omega (arith, off, end, procs) in
    record { copied = subst (λ (n : ℕ). AreCopied c.args.plan.now c.args.now c.args.window c.args.rows.now.begun c.loop-q.rows.begun n) all c.loop-q.invariant }
