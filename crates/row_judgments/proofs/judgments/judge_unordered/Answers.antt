use Rattle.row_judgments.proofs.judgments.judge_unordered.Goals as goal

pub returns-then-branch-clause-all : goal.returns-then-branch-clause-all
returns-then-branch-clause-all c = λ e. absurd (c.verdict_at.ensures.fault e)
