use Rattle.std.proofs.Common.{sym, subst}
use Rattle.trace_verdict.specs.Orders.{processor_key}
use Rattle.trace_verdict.specs.Searches.{IsFirstHit}
use Rattle.trace_verdict.proofs.PartLemmas.{order_long, hit_from}
use Rattle.trace_verdict.proofs.searches.first_processor_hit.Goals as goal

pub first_clash-requires-clause-long : goal.first_clash-requires-clause-long
first_clash-requires-clause-long c = order_long c.args.set.now processor_key c.args.rows.now c.args.by_processor.now c.requires.order c.requires.trace.each

pub returns : goal.returns
returns c = subst (IsFirstHit processor_key c.args.rows.now) (sym c.unwrap_or.ensures) (hit_from processor_key c.args.rows.now c.args.by_processor.now
    c.len-count.result c.first_clash.result c.len-count.ensures c.requires.order c.first_clash.ensures)
