use Rattle.std.proofs.Common.{◌∙◌, ap, []}
use Rattle.trace_verdict.specs.declared.walks.Walk.{Walk}
use Rattle.trace_verdict.specs.Supply.{holds_from}
use Rattle.trace_verdict.proofs.TimedLemmas.{ends_late, ends_in_time}
use Rattle.trace_verdict.proofs.task_walks.TaskWalk.ends.Goals as goal

pub returns-then-self : goal.returns-then-self
returns-then-self c = λ rows j g. ends_late rows j c.args.self.now c.if-self.true g

pub returns-then-ends : goal.returns-then-ends
returns-then-ends c = λ rows j g.
    ends_in_time rows j c.args.self.now c.ends.result c.if-self.false (c.ends.ensures ∙ ap (λ (w : Walk). holds_from c.args.self.now.periods w.done w.tick
    []) c.walk-walk.ensures) c.if-ends.true g
