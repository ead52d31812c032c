use Rattle.std.proofs.Common.{arith}
use Rattle.trace_verdict.proofs.NearLemmas.{near_within, near_up_to}
use Rattle.trace_verdict.proofs.task_walks.TaskWalk.near.Goals as goal

pub returns-then-row-near : goal.returns-then-row-near
returns-then-row-near c =
    near_within c.args.self.now c.args.row.now _ c.requires.lawful (let b = c.requires.stands.begun in omega (arith, b, c.requires.apart))
    c.in_ok-near.ensures c.requires.long (omega arith)

pub returns-then-row-near-2 : goal.returns-then-row-near-2
returns-then-row-near-2 c =
    near_up_to c.args.self.now c.args.row.now _ c.requires.lawful (let b = c.requires.stands.begun in omega (arith, b, c.requires.apart))
    c.in_ok-near.ensures c.requires.long (omega arith) (omega arith)
