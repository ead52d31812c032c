use Rattle.std.proofs.Common.{◌≡◌, ℕ, Bool, true, false, nat_lt, Vec, Global, ap, subst, ◌∙◌, lt-ltb, le-ltb, filter}
use Rattle.run_tree.specs.Tree.{Node}
use Rattle.run_tree.specs.Growth.{node_in}
use Rattle.run_tree.proofs.MappedLists.{passed_more, failed_more}
use Rattle.std.proofs.lemmas.Result.{IfOk-from_err}
use Rattle.std.proofs.lemmas.List.{take_all}
use Rattle.run_tree.proofs.maker.lower_of.Goals as goal
use Rattle.run_tree.proofs.maker.lower_of.Goals.{then-head-scale+in_ok-push, else-head-scale}

pub loop-pack-preserved : goal.loop-pack-preserved
loop-pack-preserved c =
    let is_lower : ℕ → Bool = λ p. nat_lt (node_in c.args.nodes.now p).rate c.args.scale in
    let packs = c.args.packs.now in
    let i = c.loop-pack.pack-index in
    let within = c.loop-pack-test.true in
    let rate = c.head.ensures.rate ∙ ap (λ (n : Node). n.rate) c.node_of.ensures in
    elim c.if-head-scale.branch [
      | then-head-scale+in_ok-push w ↦
          (let lower = subst (λ (r : ℕ). nat_lt r c.args.scale ≡ true) rate (lt-ltb _ _ w.if-head-scale.true) in
          passed_more is_lower packs i 0 _ _ within c.loop-pack.invariant (ap (λ (v : Vec ℕ Global). v.items) w.found-is ∙ w.in_ok-push.ensures.items) lower)
      | else-head-scale w ↦
          (let root = subst (λ (r : ℕ). nat_lt r c.args.scale ≡ false) rate (le-ltb _ _ w.if-head-scale.false) in
          failed_more is_lower packs i 0 _ _ within c.loop-pack.invariant (ap (λ (v : Vec ℕ Global). v.items) w.found-is) root)
    ]

pub node_of-requires : goal.node_of-requires
node_of-requires c = c.requires c.loop-pack.pack-index c.loop-pack-test.true

pub returns-in_err-push : goal.returns-in_err-push
returns-in_err-push c = IfOk-from_err _ _ c.from_residual.ensures.0

pub returns : goal.returns
returns c = let is_lower : ℕ → Bool = λ p. nat_lt (node_in c.args.nodes.now p).rate c.args.scale in c.loop-pack.invariant ∙ ap (filter is_lower)
    (take_all c.loop-pack.pack-index c.args.packs.now c.loop-pack-test.false)
