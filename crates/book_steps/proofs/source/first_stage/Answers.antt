use Rattle.std.proofs.Common.{◌∙◌, ap, length, refl, sym}
use Rattle.run_tree.specs.declared.tree.Tree.{Tree}
use Rattle.run_tree.specs.Schedule.{packs_at}
use Rattle.book_steps.proofs.source.first_stage.Goals as goal

pub returns-then-processors-ne1 : goal.returns-then-processors-ne1
returns-then-processors-ne1 c = refl

pub returns-in-Some : goal.returns-in-Some
returns-in-Some c = (
  refl,
  refl,
  refl,
  record {
    can = c.in-Some.ensures.can;
    turns = c.in-Some.ensures.turns;
    within = c.in-Some.ensures.within;
    alone = ap (λ (t : Tree). t.processors) (sym c.tree.ensures.value) ∙ sym c.processors.ensures.value ∙ c.if-processors-ne1.false;
    pack = ap (λ (t : Tree). length (packs_at t 0)) (sym c.tree-else-processors-ne1.ensures.value) ∙ sym c.packs.ensures ∙ c.if-packs-ne1.false;
  },
)

pub returns-in-None : goal.returns-in-None
returns-in-None c = refl
