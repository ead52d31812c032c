use Rattle.std.proofs.Common.{◌∙◌, ℕ, List, Option, None, ap, get_or, subst, sym}
use Rattle.std.proofs.lemmas.List.{get_or-replicate}
use Rattle.sched_base.specs.declared.rows.NodeId.{NodeId}
use Rattle.sched_base.specs.Tables.{lane_of}
use Rattle.merged_rounds.specs.Laps.{IsSumUpTo}
use Rattle.merged_rounds.proofs.SumLemmas.{none_kept}
use Rattle.std.proofs.lemmas.Result.{IfOk-from_err}
use Rattle.merged_rounds.proofs.passes.merge_all.Goals as goal

pub merge_to_end-requires-clause-merging : goal.merge_to_end-requires-clause-merging
merge_to_end-requires-clause-merging c =
    let source = c.args.source.now in
    let first = c.args.sum.now in
    record {
      belongs = c.requires.belongs;
      sum = subst (λ (n : ℕ). IsSumUpTo c.args.plan.now n first) (sym c.requires.first) c.requires.sum;
      kept = λ q l. none_kept c.args.plan.now source.tick q (lane_of first.rows.lanes q) (get_or c.args.kept.now q None)
          (ap (λ (xs : List (Option NodeId)). get_or xs q None) c.requires.kept ∙ get_or-replicate c.args.plan.now.tree.processors q None None l);
    }

pub merge_first-requires-clause-belongs : goal.merge_first-requires-clause-belongs
merge_first-requires-clause-belongs c = c.requires.belongs

pub merge_first-requires-clause-first : goal.merge_first-requires-clause-first
merge_first-requires-clause-first c = c.requires.first

pub merge_first-requires-clause-sum : goal.merge_first-requires-clause-sum
merge_first-requires-clause-sum c = c.requires.sum

pub returns-in_err-merge_first-in-Some-clause-sum : goal.returns-in_err-merge_first-in-Some-clause-sum
returns-in_err-merge_first-in-Some-clause-sum c = IfOk-from_err _ _ c.from_residual.ensures.0

pub merge_to_end-requires-clause-told : goal.merge_to_end-requires-clause-told
merge_to_end-requires-clause-told c = c.requires.told
