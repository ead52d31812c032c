use Rattle.std.proofs.Common.{arith}
use Rattle.trace_verdict.specs.ShortWalks.{wide_of}
use Rattle.trace_verdict.proofs.NearLemmas.{begins_same}
use Rattle.trace_verdict.proofs.ShortWalkLemmas.{short_begins_next}
use Rattle.trace_verdict.proofs.short_walks.ShortWalk.period_of.Goals as goal

pub returns-then-tick-self : goal.returns-then-tick-self
returns-then-tick-self c = begins_same (wide_of c.args.self.now) c.args.tick c.requires.lawful c.requires.stands c.requires.paced c.requires.apart
    c.if-tick-self.true

pub returns : goal.returns
returns c =
    short_begins_next c.args.self.now c.args.tick _ _ c.requires.lawful c.requires.stands c.requires.paced c.requires.apart (omega arith) (omega arith)
    (omega arith)
    c.in_ok-next.ensures.1 c.in_ok-owed.ensures.1
