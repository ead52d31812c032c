use Rattle.std.proofs.Common.{List, subst, sym}
use Rattle.sched_base.specs.declared.rows.Leaf.{Leaf}
use Rattle.merged_rounds.specs.Changes.{AreLeavesOf}
use Rattle.merged_rounds.proofs.ChangeLemmas.{released_at_once}
use Rattle.std.proofs.lemmas.Result.{IfOk-from_err, IfOk-weaker}
use Rattle.merged_rounds.proofs.turns.merge_turn.Goals as goal

pub shown_leaves-requires : goal.shown_leaves-requires
shown_leaves-requires c = released_at_once c.args.plan.now 0 c.requires.can.on_time

pub turn_from-requires-clause-leaves : goal.turn_from-requires-clause-leaves
turn_from-requires-clause-leaves c = subst (λ (ls : List Leaf). AreLeavesOf c.args.plan.now 0 ls) (sym c.deref.ensures.value) c.in_ok-leaves.ensures

pub returns-in_err-changed-clause-belongs : goal.returns-in_err-changed-clause-belongs
returns-in_err-changed-clause-belongs c = IfOk-from_err _ _ c.from_residual.ensures.0

pub returns-in_err-changed-clause-sum : goal.returns-in_err-changed-clause-sum
returns-in_err-changed-clause-sum c = IfOk-from_err _ _ c.from_residual.ensures.0

pub returns-in_err-changed-clause-turn : goal.returns-in_err-changed-clause-turn
returns-in_err-changed-clause-turn c = IfOk-from_err _ _ c.from_residual.ensures.0

pub returns-in_err-changed-clause-end : goal.returns-in_err-changed-clause-end
returns-in_err-changed-clause-end c = IfOk-from_err _ _ c.from_residual.ensures.0

pub returns-in_err-told-clause-belongs : goal.returns-in_err-told-clause-belongs
returns-in_err-told-clause-belongs c = IfOk-from_err _ _ c.from_residual-in_err-told.ensures.0

pub returns-in_err-told-clause-sum : goal.returns-in_err-told-clause-sum
returns-in_err-told-clause-sum c = IfOk-from_err _ _ c.from_residual-in_err-told.ensures.0

pub returns-in_err-told-clause-turn : goal.returns-in_err-told-clause-turn
returns-in_err-told-clause-turn c = IfOk-from_err _ _ c.from_residual-in_err-told.ensures.0

pub returns-in_err-told-clause-end : goal.returns-in_err-told-clause-end
returns-in_err-told-clause-end c = IfOk-from_err _ _ c.from_residual-in_err-told.ensures.0

pub returns-in_err-leaves-clause-belongs : goal.returns-in_err-leaves-clause-belongs
returns-in_err-leaves-clause-belongs c = IfOk-from_err _ _ c.from_residual-in_err-leaves.ensures.0

pub returns-in_err-leaves-clause-sum : goal.returns-in_err-leaves-clause-sum
returns-in_err-leaves-clause-sum c = IfOk-from_err _ _ c.from_residual-in_err-leaves.ensures.0

pub returns-in_err-leaves-clause-turn : goal.returns-in_err-leaves-clause-turn
returns-in_err-leaves-clause-turn c = IfOk-from_err _ _ c.from_residual-in_err-leaves.ensures.0

pub returns-in_err-leaves-clause-end : goal.returns-in_err-leaves-clause-end
returns-in_err-leaves-clause-end c = IfOk-from_err _ _ c.from_residual-in_err-leaves.ensures.0

pub returns-in_err-marks-clause-belongs : goal.returns-in_err-marks-clause-belongs
returns-in_err-marks-clause-belongs c = IfOk-from_err _ _ c.from_residual-in_err-marks.ensures.0

pub returns-in_err-marks-clause-sum : goal.returns-in_err-marks-clause-sum
returns-in_err-marks-clause-sum c = IfOk-from_err _ _ c.from_residual-in_err-marks.ensures.0

pub returns-in_err-marks-clause-turn : goal.returns-in_err-marks-clause-turn
returns-in_err-marks-clause-turn c = IfOk-from_err _ _ c.from_residual-in_err-marks.ensures.0

pub returns-in_err-marks-clause-end : goal.returns-in_err-marks-clause-end
returns-in_err-marks-clause-end c = IfOk-from_err _ _ c.from_residual-in_err-marks.ensures.0

pub turn_from-requires-clause-can : goal.turn_from-requires-clause-can
turn_from-requires-clause-can c = c.requires.can

pub turn_from-requires-clause-belongs : goal.turn_from-requires-clause-belongs
turn_from-requires-clause-belongs c = c.requires.belongs

pub turn_from-requires-clause-first : goal.turn_from-requires-clause-first
turn_from-requires-clause-first c = c.requires.first

pub turn_from-requires-clause-early : goal.turn_from-requires-clause-early
turn_from-requires-clause-early c = c.requires.early

pub turn_from-requires-clause-sum : goal.turn_from-requires-clause-sum
turn_from-requires-clause-sum c = c.requires.sum

pub turn_from-requires-clause-until : goal.turn_from-requires-clause-until
turn_from-requires-clause-until c = c.requires.until

pub turn_from-requires-clause-marks : goal.turn_from-requires-clause-marks
turn_from-requires-clause-marks c = c.in_ok-marks.ensures

pub turn_from-requires-clause-few : goal.turn_from-requires-clause-few
turn_from-requires-clause-few c = c.requires.few

pub returns-clause-belongs : goal.returns-clause-belongs
returns-clause-belongs c = IfOk-weaker c.turn_from.result _ _ (λ _ g. g.showing.belongs) c.turn_from.ensures.going

pub returns-clause-sum : goal.returns-clause-sum
returns-clause-sum c = IfOk-weaker c.turn_from.result _ _ (λ _ g. g.showing.sum) c.turn_from.ensures.going

pub returns-clause-turn : goal.returns-clause-turn
returns-clause-turn c = IfOk-weaker c.turn_from.result _ _ (λ _ g. g.turn) c.turn_from.ensures.going

pub returns-clause-end : goal.returns-clause-end
returns-clause-end c = IfOk-weaker c.turn_from.result _ _ (λ _ g. g.end) c.turn_from.ensures.going

pub returns-clause-fault : goal.returns-clause-fault
returns-clause-fault c = c.turn_from.ensures.fault
