use Rattle.std.proofs.Common.{ap₂, arith, get_or, subst, ◌∙◌}
use Rattle.std.proofs.lemmas.Result.{IfOk-from_err}
use Rattle.sched_base.specs.Places.{unplaced}
use Rattle.run_tree.specs.Tree.{Tree}
use Rattle.run_tree.specs.Schedule.{packs_at}
use Rattle.run_tree.proofs.TreeLemmas.{first_is_pack}
use Rattle.tree_select.specs.Masks.{AreMasksOf}
use Rattle.event_core.proofs.NextCores.{first_core}
use Rattle.event_core.proofs.firsts.first_state.Goals as goal

pub returns : goal.returns
returns c = (
  c.in_ok-dues.ensures.tick,
  record {
    at = first_core c.args.plan.now c.requires.plan c.in_ok-calendar.calendar c.in_ok-calendar.ensures.1 c.in_ok-calendar.ensures.0
        c.in_ok-dues.dues.remains c.in_ok-dues.ensures.nodes c.in_ok-dues.ensures.left
        c.in_ok-places.places (c.in_ok-places.ensures ∙ ap₂ unplaced c.pack_count.ensures c.processor_count.ensures.value) c.in_ok-dues.dues.tick
        c.in_ok-dues.ensures.tick c.in_ok-dues.dues.runs c.in_ok-dues.serving c.in_ok-masks.masks;
    long = c.in_ok-dues.ensures.long;
    serving = c.in_ok-dues.ensures.serving;
    masks = subst (λ (t : Tree). AreMasksOf t c.in_ok-masks.masks) c.tree.ensures.value c.in_ok-masks.ensures;
    settled = λ i low l off. absurd (c.in_ok-dues.ensures.marked (get_or (packs_at c.args.plan.now.tree 0) i 0) (first_is_pack c.args.plan.now.tree
        c.requires.plan.tree.tree i l) off);
    shown = λ start r. absurd (let up = r.above in let zero = c.in_ok-dues.ensures.tick in omega (arith, up, zero));
  },
)

pub first_serving-requires-clause-plan : goal.first_serving-requires-clause-plan
first_serving-requires-clause-plan c = c.requires.plan

pub first_serving-requires-clause-calendar : goal.first_serving-requires-clause-calendar
first_serving-requires-clause-calendar c = c.in_ok-calendar.ensures.1

pub first_serving-requires-clause-unit : goal.first_serving-requires-clause-unit
first_serving-requires-clause-unit c = c.in_ok-calendar.ensures.0

pub returns-in_err-places : goal.returns-in_err-places
returns-in_err-places c = IfOk-from_err c.from_residual-in_err-places.result _ c.from_residual-in_err-places.ensures.0

pub returns-in_err-calendar : goal.returns-in_err-calendar
returns-in_err-calendar c = IfOk-from_err c.from_residual-in_err-calendar.result _ c.from_residual-in_err-calendar.ensures.0

pub returns-in_err-dues : goal.returns-in_err-dues
returns-in_err-dues c = IfOk-from_err c.from_residual-in_err-dues.result _ c.from_residual-in_err-dues.ensures.0

pub returns-in_err-masks : goal.returns-in_err-masks
returns-in_err-masks c = IfOk-from_err c.from_residual.result _ c.from_residual.ensures.0
