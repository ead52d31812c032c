use Rattle.trace_verdict.proofs.StandingLemmas.{standing_all}
use Rattle.trace_verdict.proofs.standing.stand.Goals as goal

pub returns : goal.returns
returns c = standing_all c.args.rows.now c.standing_len.result c.len.result c.len.ensures c.standing_len.ensures.within c.standing_len.ensures.stands
    c.standing_len.ensures.stops
