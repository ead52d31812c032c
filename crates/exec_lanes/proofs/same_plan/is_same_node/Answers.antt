use Rattle.std.proofs.Common.{ap, sym, ◌∙◌}
use Rattle.std.proofs.lemmas.Bool.{iff_false}
use Rattle.run_tree.specs.Tree.{Node}
use Rattle.exec_lanes.proofs.ErrorLemmas.{untrue}
use Rattle.exec_lanes.proofs.TreeLemmas.{same_numbers}
use Rattle.exec_lanes.proofs.same_plan.is_same_node.Goals as goal

pub kind-requires : goal.kind-requires
kind-requires c = c.requires.first

pub kind-requires-2 : goal.kind-requires-2
kind-requires-2 c = c.requires.second

pub rate-requires : goal.rate-requires
rate-requires c = c.requires.first

pub rate-requires-else-ne : goal.rate-requires-else-ne
rate-requires-else-ne c = c.requires.second

pub home-requires : goal.home-requires
home-requires c = c.requires.first

pub home-requires-2 : goal.home-requires-2
home-requires-2 c = c.requires.second

pub place-requires : goal.place-requires
place-requires c = c.requires.first

pub place-requires-else-home : goal.place-requires-else-home
place-requires-else-home c = c.requires.second

pub members-requires : goal.members-requires
members-requires c = c.requires.first

pub members-requires-2 : goal.members-requires-2
members-requires-2 c = c.requires.second

pub dual-requires : goal.dual-requires
dual-requires c = c.requires.first

pub dual-requires-then-is_same_list : goal.dual-requires-then-is_same_list
dual-requires-then-is_same_list c = c.requires.second

pub returns-else-is_same_list : goal.returns-else-is_same_list
returns-else-is_same_list c = (
  λ is. untrue (sym c.if-is_same_list.false ∙ is),
  λ same. absurd (iff_false c.is_same_list.ensures c.if-is_same_list.false (same_numbers _ _ (c.members.ensures ∙ ap (λ (n : Node). n.members) same
      ∙ sym c.members-2.ensures))),
)
