use Rattle.std.proofs.Common.{arith}
use Rattle.trace_verdict.proofs.NearLemmas.{begins_same, begins_next}
use Rattle.trace_verdict.proofs.task_walks.TaskWalk.period_of.Goals as goal

pub returns-then-tick-self : goal.returns-then-tick-self
returns-then-tick-self c = begins_same c.args.self.now c.args.tick c.requires.lawful c.requires.stands c.requires.paced c.requires.apart c.if-tick-self.true

pub returns : goal.returns
returns c = begins_next c.args.self.now c.args.tick c.requires.lawful c.requires.stands c.requires.paced c.requires.apart (omega arith) (omega arith)
    (omega arith)
