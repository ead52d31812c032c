use Rattle.std.proofs.Common.{ap, get_or, None, Option, List, ◌∙◌}
use Rattle.std.proofs.lemmas.Result.{IfOk-from_err}
use Rattle.merged_rounds.proofs.SumLemmas.{none_kept}
use Rattle.sched_base.specs.Tables.{lane_of}
use Rattle.sched_base.specs.declared.rows.NodeId.{NodeId}
use Rattle.std.proofs.lemmas.List.{get_or-replicate}
use Rattle.merged_rounds.proofs.passes.merge_with_laps.Goals as goal

pub merge_until_again-requires-clause-merging : goal.merge_until_again-requires-clause-merging
merge_until_again-requires-clause-merging c = record {
  belongs = c.requires.belongs;
  sum = c.requires.sum;
  kept = λ q l. none_kept c.args.plan.now c.args.source.now.tick q (lane_of c.args.sum.now.rows.lanes q) (get_or c.args.kept.now q None)
      (ap (λ (xs : List (Option NodeId)). get_or xs q None) c.requires.kept ∙ get_or-replicate c.args.plan.now.tree.processors q None None l);
}

pub merge_until_again-requires-clause-told : goal.merge_until_again-requires-clause-told
merge_until_again-requires-clause-told c = c.requires.told

pub merge_until_again-requires-clause-turn : goal.merge_until_again-requires-clause-turn
merge_until_again-requires-clause-turn c = c.requires.turn

pub merge_until_again-requires-clause-within : goal.merge_until_again-requires-clause-within
merge_until_again-requires-clause-within c = c.requires.within

pub returns-in_err-ticks-clause-sum : goal.returns-in_err-ticks-clause-sum
returns-in_err-ticks-clause-sum c = IfOk-from_err _ _ c.from_residual.ensures.0

pub merge_again-requires-clause-apart : goal.merge_again-requires-clause-apart
merge_again-requires-clause-apart c = c.requires.apart

pub merge_again-requires-clause-told : goal.merge_again-requires-clause-told
merge_again-requires-clause-told c = c.merge_until_again.auto.told ∙ c.requires.told

pub merge_again-requires-clause-turn : goal.merge_again-requires-clause-turn
merge_again-requires-clause-turn c = c.requires.turn

pub merge_to_end-requires-clause-told : goal.merge_to_end-requires-clause-told
merge_to_end-requires-clause-told c = c.merge_until_again.auto.told ∙ c.requires.told
