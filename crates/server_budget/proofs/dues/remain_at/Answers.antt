use Rattle.std.proofs.Common.{Bool, ap, get_or, sym, ◌∙◌}
use Rattle.server_budget.specs.Dues.{left_by}
use Rattle.server_budget.proofs.DueLemmas.{remain_by}
use Rattle.server_budget.proofs.dues.remain_at.Goals as goal

pub returns-then-runs-n : goal.returns-then-runs-n
returns-then-runs-n c =
    let m = get_or c.args.marks.now c.args.n 0 in
    sym (remain_by c.args.tick c.args.runs.now c.args.marks.now c.args.n c.requires.ahead.long ∙ ap (λ (b : Bool). left_by c.args.tick b m) c.if-runs-n.true)

pub returns-else-runs-n : goal.returns-else-runs-n
returns-else-runs-n c =
    let m = get_or c.args.marks.now c.args.n 0 in
    sym (remain_by c.args.tick c.args.runs.now c.args.marks.now c.args.n c.requires.ahead.long ∙ ap (λ (b : Bool). left_by c.args.tick b m) c.if-runs-n.false)
