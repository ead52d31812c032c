use Rattle.std.proofs.Common.{◌≡◌, ◌<◌, ◌∙◌, true, false, not, length, ap, subst, sym}
use Rattle.std.proofs.lemmas.Bool.{not-false, not-true}
use Rattle.run_tree.specs.Tree.{Tree, is_pack, kind_at}
use Rattle.event_core.proofs.firsts.room_of.Goals as goal
use Rattle.event_core.proofs.firsts.room_of.Goals.{After-is_member}

told : (c : After-is_member) → c.is_member.result ≡ not (is_pack (kind_at c.args.plan.now.tree c.args.n.0))
told c = c.is_member.ensures ∙ ap (λ (t : Tree). not (is_pack (kind_at t c.args.n.0))) c.tree.ensures.value

pub is_member-requires : goal.is_member-requires
is_member-requires c = subst (λ (t : Tree). c.args.n.0 < length t.nodes) (sym c.tree.ensures.value) c.requires.node

pub places_of-requires-clause-plan : goal.places_of-requires-clause-plan
places_of-requires-clause-plan c = c.requires.plan

pub places_of-requires-clause-pack : goal.places_of-requires-clause-pack
places_of-requires-clause-pack c = (c.requires.node, not-false _ (sym (told (goal.at.places_of-requires-clause-pack c).After-is_member) ∙ c.if-is_member.false))

pub returns-then-is_member-clause-pack : goal.returns-then-is_member-clause-pack
returns-then-is_member-clause-pack c = λ pack. absurd (
    let no : true ≡ false = sym pack ∙ not-true _ (sym (told (goal.at.returns-then-is_member-clause-pack c).After-is_member) ∙ c.if-is_member.true) in
    cc)

pub returns-else-is_member-clause-pack : goal.returns-else-is_member-clause-pack
returns-else-is_member-clause-pack c = λ _. c.places_of.ensures.value

pub returns-else-is_member-clause-some : goal.returns-else-is_member-clause-some
returns-else-is_member-clause-some c = c.places_of.ensures.some

pub returns-else-is_member-clause-few : goal.returns-else-is_member-clause-few
returns-else-is_member-clause-few c = c.places_of.ensures.few
