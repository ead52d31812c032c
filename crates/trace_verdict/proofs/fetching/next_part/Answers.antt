use Rattle.trace_verdict.proofs.SuppliedLemmas.{left_is}
use Rattle.trace_verdict.proofs.fetching.next_part.Goals as goal

pub returns-clause-parts : goal.returns-clause-parts
returns-clause-parts c = left_is c.min.result c.args.places.now c.split_at.result.0.now c.split_at.result.1.now c.split_at.ensures.front c.split_at.ensures.back
