use Rattle.std.proofs.Common.{ℕ, arith, subst, sym, List}
use Rattle.sched_base.specs.declared.rows.Leaf.{Leaf}
use Rattle.merged_rounds.specs.Changes.{AreLeavesOf}
use Rattle.merged_rounds.proofs.ChangeLemmas.{leaves_later}
use Rattle.std.proofs.lemmas.Result.{IfOk-from_err, IfOk-weaker}
use Rattle.merged_rounds.proofs.changed.merge_released.Goals as goal

pub merge_changed-requires-clause-leaves : goal.merge_changed-requires-clause-leaves
merge_changed-requires-clause-leaves c =
    let p = c.args.plan.now in
    let end = c.merge_whole.new.source.tick in
    let leaves = c.in_ok-leaves.leaves.items in
    let above = c.in_ok-merge_whole.ensures.round.above in
    subst (λ (ls : List Leaf). AreLeavesOf p end ls) (sym c.deref.ensures.value)
    (leaves_later p c.args.source.now.tick end leaves (omega (arith, above)) (subst (λ (n : ℕ). AreLeavesOf p n leaves) c.now-start.ensures
    c.in_ok-leaves.ensures))

pub returns-then-start-until-clause-belongs : goal.returns-then-start-until-clause-belongs
returns-then-start-until-clause-belongs c = c.requires.belongs

pub returns-then-start-until-clause-sum : goal.returns-then-start-until-clause-sum
returns-then-start-until-clause-sum c = c.requires.sum

pub returns-then-start-until-clause-reached : goal.returns-then-start-until-clause-reached
returns-then-start-until-clause-reached c = let now = c.now-start.ensures in let past = c.if-start-until.true in omega (arith, now, past)

pub returns-in_err-changed-clause-belongs : goal.returns-in_err-changed-clause-belongs
returns-in_err-changed-clause-belongs c = IfOk-from_err _ _ c.from_residual.ensures.0

pub returns-in_err-changed-clause-sum : goal.returns-in_err-changed-clause-sum
returns-in_err-changed-clause-sum c = IfOk-from_err _ _ c.from_residual.ensures.0

pub returns-in_err-changed-clause-reached : goal.returns-in_err-changed-clause-reached
returns-in_err-changed-clause-reached c = IfOk-from_err _ _ c.from_residual.ensures.0

pub returns-in_err-leaves-clause-belongs : goal.returns-in_err-leaves-clause-belongs
returns-in_err-leaves-clause-belongs c = IfOk-from_err _ _ c.from_residual-in_err-leaves.ensures.0

pub returns-in_err-leaves-clause-sum : goal.returns-in_err-leaves-clause-sum
returns-in_err-leaves-clause-sum c = IfOk-from_err _ _ c.from_residual-in_err-leaves.ensures.0

pub returns-in_err-leaves-clause-reached : goal.returns-in_err-leaves-clause-reached
returns-in_err-leaves-clause-reached c = IfOk-from_err _ _ c.from_residual-in_err-leaves.ensures.0

pub merge_whole-requires-clause-belongs : goal.merge_whole-requires-clause-belongs
merge_whole-requires-clause-belongs c = c.requires.belongs

pub merge_whole-requires-clause-released : goal.merge_whole-requires-clause-released
merge_whole-requires-clause-released c = c.requires.released (let now = c.now-start.ensures in let on = c.if-start-until.false in omega (arith, now, on))

pub merge_whole-requires-clause-early : goal.merge_whole-requires-clause-early
merge_whole-requires-clause-early c = let now = c.now-start.ensures in let on = c.if-start-until.false in let most = c.requires.until in
    omega (arith, now, on, most)

pub merge_whole-requires-clause-sum : goal.merge_whole-requires-clause-sum
merge_whole-requires-clause-sum c = c.requires.sum

pub merge_whole-requires-clause-told : goal.merge_whole-requires-clause-told
merge_whole-requires-clause-told c = c.requires.told

pub returns-in_err-merge_whole-clause-belongs : goal.returns-in_err-merge_whole-clause-belongs
returns-in_err-merge_whole-clause-belongs c = IfOk-from_err _ _ c.from_residual-in_err-merge_whole.ensures.0

pub returns-in_err-merge_whole-clause-sum : goal.returns-in_err-merge_whole-clause-sum
returns-in_err-merge_whole-clause-sum c = IfOk-from_err _ _ c.from_residual-in_err-merge_whole.ensures.0

pub returns-in_err-merge_whole-clause-reached : goal.returns-in_err-merge_whole-clause-reached
returns-in_err-merge_whole-clause-reached c = IfOk-from_err _ _ c.from_residual-in_err-merge_whole.ensures.0

pub merge_changed-requires-clause-showing : goal.merge_changed-requires-clause-showing
merge_changed-requires-clause-showing c = c.in_ok-merge_whole.ensures.showing

pub merge_changed-requires-clause-until : goal.merge_changed-requires-clause-until
merge_changed-requires-clause-until c = c.requires.until

pub returns-clause-belongs : goal.returns-clause-belongs
returns-clause-belongs c = IfOk-weaker c.merge_changed.result _ _ (λ _ s. s.belongs) c.merge_changed.ensures.showing

pub returns-clause-sum : goal.returns-clause-sum
returns-clause-sum c = IfOk-weaker c.merge_changed.result _ _ (λ _ s. s.sum) c.merge_changed.ensures.showing

pub returns-clause-reached : goal.returns-clause-reached
returns-clause-reached c = c.merge_changed.ensures.reached

pub returns-clause-fault : goal.returns-clause-fault
returns-clause-fault c = c.merge_changed.ensures.fault
