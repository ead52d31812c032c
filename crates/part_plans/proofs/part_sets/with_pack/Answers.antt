use Rattle.std.proofs.Common.{◌≡◌, ◌∙◌, ◌<◌, ap, length, refl, subst, sym}
use Rattle.std.proofs.lemmas.Result.{IfOk-from_err}
use Rattle.run_tree.specs.Tree.{Tree, member, members}
use Rattle.run_tree.proofs.NodeReads.{length-members}
use Rattle.part_plans.proofs.NodeLemmas.{member_within}
use Rattle.part_plans.proofs.part_sets.with_pack.Goals as goal

pub members-k-end-requires : goal.members-k-end-requires
members-k-end-requires c = subst (λ (t : Tree). c.args.pack.0 < length t.nodes) (sym c.tree.ensures.value) c.requires.0

pub member-requires-clause-node : goal.member-requires-clause-node
member-requires-clause-node c = subst (λ (t : Tree). c.args.pack.0 < length t.nodes) (sym c.tree-in-loop-k.ensures.value) c.requires.0

pub member-requires-clause-member : goal.member-requires-clause-member
member-requires-clause-member c =
    let read = length-members c.tree.result.now c.args.pack.0 c.members-k-end.result.now c.members-k-end.ensures in
    subst (λ n. c.loop-k.k < n) (read ∙ ap (λ (t : Tree). length (members t c.args.pack.0)) (c.tree.ensures.value ∙ sym c.tree-in-loop-k.ensures.value))
    c.loop-k-test.true

pub with_leaf-requires : goal.with_leaf-requires
with_leaf-requires c =
    let whole = c.args.whole.now.tree in
    let pack = c.args.pack.0 in
    let read = length-members c.tree.result.now pack c.members-k-end.result.now c.members-k-end.ensures in
    let within : c.loop-k.k < length (members whole pack) =
    subst (λ n. c.loop-k.k < n) (read ∙ ap (λ (t : Tree). length (members t pack)) c.tree.ensures.value) c.loop-k-test.true in
    member_within whole pack c.loop-k.k c.member.result.0 (length whole.nodes) c.know_lawful.ensures.lawful.tree.tree c.requires within
    (subst (λ (t : Tree). c.member.result.0 ≡ member t pack c.loop-k.k) c.tree-in-loop-k.ensures.value c.member.ensures) refl

pub returns-in_err-next : goal.returns-in_err-next
returns-in_err-next c = IfOk-from_err _ _ c.from_residual.ensures.0
