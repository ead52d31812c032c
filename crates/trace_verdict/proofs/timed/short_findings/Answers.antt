use Rattle.std.proofs.Common.{◌∙◌, length, drop, map, sym, ap, subst}
use Rattle.std.proofs.lemmas.List.{length-map, take_at}
use Rattle.std.proofs.lemmas.Result.{IfOk-from_err}
use Rattle.trace_verdict.specs.ShortWalks.{wide_of}
use Rattle.trace_verdict.specs.Timed.{AreGoing}
use Rattle.trace_verdict.proofs.StepLemmas.{short_each}
use Rattle.trace_verdict.proofs.timed.short_findings.Goals as goal

pub rows-init : goal.rows-init
rows-init c = (c.requires.count, c.requires.going)

pub go_by_short-requires-clause-short : goal.go_by_short-requires-clause-short
go_by_short-requires-clause-short c = c.requires.short

pub go_by_short-requires-clause-each : goal.go_by_short-requires-clause-each
go_by_short-requires-clause-each c = short_each c.args.set.now c.args.scale c.args.rows.now _ _ c.deref_mut.ensures.value c.rows.invariant.1

pub rows-preserved : goal.rows-preserved
rows-preserved c =
    let old = c.rows.walks in
    let new = c.go_by_short.new.walks in
    let going = AreGoing c.args.set.now c.args.scale c.args.rows.now 0 in
    let long = c.go_by_short.ensures.count ∙ ap length c.deref_mut.ensures.value in
    let back = take_at new (drop (length new) old.items) old.len (long ∙ sym old.ok.0) in
    let before = subst (λ ws. going (map wide_of ws)) (sym c.deref_mut.ensures.value) c.rows.invariant.1 in (
      ap length back ∙ long ∙ c.rows.invariant.0,
      subst (λ ws. going (map wide_of ws)) (sym back) (c.go_by_short.ensures.gone c.if-not-go_by_short.false c.args.set.now c.args.scale before),
    )

pub returns-in_err-wide : goal.returns-in_err-wide
returns-in_err-wide c = IfOk-from_err _ _ c.from_residual.ensures.0

pub found_of-requires-clause-trace : goal.found_of-requires-clause-trace
found_of-requires-clause-trace c = c.requires.trace

pub found_of-requires-clause-total : goal.found_of-requires-clause-total
found_of-requires-clause-total c = c.requires.total

pub found_of-requires-clause-count : goal.found_of-requires-clause-count
found_of-requires-clause-count c = ap length (c.deref-2.ensures.value ∙ c.in_ok-wide.ensures) ∙ length-map c.deref.result.now wide_of
    ∙ ap length c.deref.ensures.value ∙ c.rows.invariant.0

pub found_of-requires-clause-going : goal.found_of-requires-clause-going
found_of-requires-clause-going c =
    subst (AreGoing c.args.set.now c.args.scale c.args.rows.now 0) (sym (c.deref-2.ensures.value ∙ c.in_ok-wide.ensures ∙ ap (map wide_of)
    c.deref.ensures.value)) c.rows.invariant.1

pub returns : goal.returns
returns c = c.found_of.ensures
