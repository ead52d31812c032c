use Rattle.std.proofs.Common.{List, ℕ, ap, ap₂, sym, subst, length, ◌∙◌}
use Rattle.std.proofs.lemmas.List.{length-map}
use Rattle.run_tree.specs.Making.{lifted}
use Rattle.run_tree.specs.Maker.{NamesLower, packs_named}
use Rattle.tree_check.specs.Faults.{members_of}
use Rattle.tree_check.specs.TextTree.{number_of}
use Rattle.tree_check.proofs.LevelLists.{length-homes}
use Rattle.std.proofs.lemmas.Result.{IfOk-from_err, on_ok_weaker}
use Rattle.tree_check.proofs.plan.add_level.Goals as goal

pub add_packs-requires : goal.add_packs-requires
add_packs-requires c = record { few = c.requires.few; order = c.new-order.ensures.items; homes = c.new-homes.ensures.items }

pub lift_order-requires : goal.lift_order-requires
lift_order-requires c = record {
  few_levels = c.requires.few_levels;
  some = c.requires.some;
  order = subst (NamesLower c.args.maker.now) (sym (c.deref.ensures.value ∙ c.in_ok-add_packs.ensures.order)) c.requires.order;
  homes =
      ap length (c.deref-2.ensures.value ∙ c.in_ok-add_packs.ensures.homes) ∙ length-homes 0 c.args.packs.now
      ∙ sym (length-map (members_of c.args.packs.now) number_of) ∙ sym (ap length (c.deref.ensures.value ∙ c.in_ok-add_packs.ensures.order));
}

pub returns-in_err-add_packs : goal.returns-in_err-add_packs
returns-in_err-add_packs c = IfOk-from_err _ _ c.from_residual.ensures.0

pub returns : goal.returns
returns c =
    on_ok_weaker c.lift_order.result
    (λ e. e ∙ ap₂ (λ (o h : List ℕ). lifted (packs_named c.args.maker.now o) h c.args.maker.now) (c.deref.ensures.value ∙ c.in_ok-add_packs.ensures.order)
    (c.deref-2.ensures.value ∙ c.in_ok-add_packs.ensures.homes))
    c.lift_order.ensures.ok
