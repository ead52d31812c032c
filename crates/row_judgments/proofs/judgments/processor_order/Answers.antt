use Rattle.std.proofs.lemmas.Result.{IfOk-from_err}
use Rattle.std.proofs.Common.{sym, ◌∙◌, subst}
use Rattle.trace_verdict.specs.Searches.{IsFirstHit}
use Rattle.trace_verdict.specs.Orders.{processor_key, entries_from}
use Rattle.trace_verdict.proofs.StandingLemmas.{order_standing, hit_standing}
use Rattle.row_judgments.proofs.judgments.processor_order.Goals as goal

pub returns-then-stand-clause-order : goal.returns-then-stand-clause-order
returns-then-stand-clause-order c = (
  entries_from processor_key 0 c.args.rows.now,
  order_standing c.args.set.now c.args.rows.now c.requires.trace.each (sym c.stand.ensures ∙ c.if-stand.true),
  c.in_ok-all_places.ensures,
)

pub returns-then-stand-clause-hit : goal.returns-then-stand-clause-hit
returns-then-stand-clause-hit c =
    subst (IsFirstHit processor_key c.args.rows.now) (sym c.len.ensures) (hit_standing c.args.set.now c.args.rows.now c.requires.trace.each
    (sym c.stand.ensures ∙ c.if-stand.true))

pub all_places-requires : goal.all_places-requires
all_places-requires c = c.requires.trace.few

pub returns-in_err-all_places-clause-order : goal.returns-in_err-all_places-clause-order
returns-in_err-all_places-clause-order c = IfOk-from_err _ _ c.from_residual.ensures.0

pub returns-in_err-all_places-clause-hit : goal.returns-in_err-all_places-clause-hit
returns-in_err-all_places-clause-hit c = IfOk-from_err _ _ c.from_residual.ensures.0

pub order_by_processor-requires : goal.order_by_processor-requires
order_by_processor-requires c = c.requires.trace.few

pub returns-in_err-entries-clause-order : goal.returns-in_err-entries-clause-order
returns-in_err-entries-clause-order c = IfOk-from_err _ _ c.from_residual-in_err-entries.ensures.0

pub returns-in_err-entries-clause-hit : goal.returns-in_err-entries-clause-hit
returns-in_err-entries-clause-hit c = IfOk-from_err _ _ c.from_residual-in_err-entries.ensures.0

pub first_processor_hit-hit-requires-clause-trace : goal.first_processor_hit-hit-requires-clause-trace
first_processor_hit-hit-requires-clause-trace c = c.requires.trace

pub first_processor_hit-hit-requires-clause-order : goal.first_processor_hit-hit-requires-clause-order
first_processor_hit-hit-requires-clause-order c = rw c.deref.ensures.value c.in_ok-entries.ensures

pub returns-in_err-places-clause-order : goal.returns-in_err-places-clause-order
returns-in_err-places-clause-order c = IfOk-from_err _ _ c.from_residual-in_err-places.ensures.0

pub returns-in_err-places-clause-hit : goal.returns-in_err-places-clause-hit
returns-in_err-places-clause-hit c = IfOk-from_err _ _ c.from_residual-in_err-places.ensures.0

pub returns-clause-hit : goal.returns-clause-hit
returns-clause-hit c = c.first_processor_hit-hit.ensures
