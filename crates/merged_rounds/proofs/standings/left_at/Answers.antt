use Rattle.std.proofs.Common.{ℕ, inr, subst}
use Rattle.std.proofs.lemmas.Result.{IfOk-weaker}
use Rattle.event_core.specs.Cores.{HasLeft}
use Rattle.merged_rounds.proofs.standings.left_at.Goals as goal

pub returns : goal.returns
returns c =
    let computed = c.replays.ensures.computed c.if-replays.false in
    IfOk-weaker c.dues_left.result _ _ (λ left has. inr (subst (λ (n : ℕ). HasLeft c.args.plan.now n left.items) computed.tick has)) c.dues_left.ensures
