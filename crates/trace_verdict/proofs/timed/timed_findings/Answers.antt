use Rattle.std.proofs.Common.{◌∙◌, length, drop, sym, ap, subst}
use Rattle.std.proofs.lemmas.List.{length-map, take_at}
use Rattle.std.proofs.lemmas.Result.{IfOk-from_err}
use Rattle.trace_verdict.specs.ShortWalks.{wide_of}
use Rattle.trace_verdict.specs.Timed.{AreGoing}
use Rattle.trace_verdict.proofs.StepLemmas.{going_each}
use Rattle.trace_verdict.proofs.timed.timed_findings.Goals as goal

pub all_walks-requires-clause-some_scale : goal.all_walks-requires-clause-some_scale
all_walks-requires-clause-some_scale c = c.requires.trace.some_scale

pub all_walks-requires-clause-scale : goal.all_walks-requires-clause-scale
all_walks-requires-clause-scale c = c.requires.trace.scale_fits

pub returns-in_err-walks : goal.returns-in_err-walks
returns-in_err-walks c = IfOk-from_err _ _ c.from_residual.ensures.0

pub returns-in_err-walks-2 : goal.returns-in_err-walks-2
returns-in_err-walks-2 c = IfOk-from_err _ _ c.from_residual-in_err-walks-2.ensures.0

pub short_findings-requires-clause-trace : goal.short_findings-requires-clause-trace
short_findings-requires-clause-trace c = c.requires.trace

pub short_findings-requires-clause-total : goal.short_findings-requires-clause-total
short_findings-requires-clause-total c = c.requires.total

pub short_findings-requires-clause-short : goal.short_findings-requires-clause-short
short_findings-requires-clause-short c = c.in-Some.ensures

pub short_findings-requires-clause-count : goal.short_findings-requires-clause-count
short_findings-requires-clause-count c =
    let made = rw c.in-Some-2.is at c.in_ok-walks-2.ensures in
    sym (length-map c.in-Some-2.walks.items wide_of) ∙ ap length (made ∙ c.deref.ensures.value) ∙ c.in_ok-walks.ensures.count

pub short_findings-requires-clause-going : goal.short_findings-requires-clause-going
short_findings-requires-clause-going c =
    let made = rw c.in-Some-2.is at c.in_ok-walks-2.ensures in
    subst (AreGoing c.args.set.now c.args.scale c.args.rows.now 0) (sym (made ∙ c.deref.ensures.value)) (c.in_ok-walks.ensures.going c.args.rows.now)

pub returns-in-Some-2 : goal.returns-in-Some-2
returns-in-Some-2 c = c.short_findings.ensures

pub rows-init : goal.rows-init
rows-init c = (c.in_ok-walks.ensures.count, c.in_ok-walks.ensures.going c.args.rows.now)

pub go_by-requires : goal.go_by-requires
go_by-requires c = going_each c.args.set.now c.args.scale c.args.rows.now _ _ c.deref_mut.ensures.value c.rows.invariant.1

pub rows-preserved : goal.rows-preserved
rows-preserved c =
    let old = c.rows.walks in
    let new = c.go_by.new.walks in
    let going = AreGoing c.args.set.now c.args.scale c.args.rows.now 0 in
    let long = c.go_by.auto.walks ∙ ap length c.deref_mut.ensures.value in
    let back = take_at new (drop (length new) old.items) old.len (long ∙ sym old.ok.0) in (
      ap length back ∙ long ∙ c.rows.invariant.0,
      subst going (sym back) (c.go_by.ensures c.if-not-go_by.false c.args.set.now c.args.scale (subst going (sym c.deref_mut.ensures.value)
          c.rows.invariant.1)),
    )

pub found_of-requires-clause-trace : goal.found_of-requires-clause-trace
found_of-requires-clause-trace c = c.requires.trace

pub found_of-requires-clause-total : goal.found_of-requires-clause-total
found_of-requires-clause-total c = c.requires.total

pub found_of-requires-clause-count : goal.found_of-requires-clause-count
found_of-requires-clause-count c = ap length c.deref-2.ensures.value ∙ c.rows.invariant.0

pub found_of-requires-clause-going : goal.found_of-requires-clause-going
found_of-requires-clause-going c = subst (AreGoing c.args.set.now c.args.scale c.args.rows.now 0) (sym c.deref-2.ensures.value) c.rows.invariant.1

pub returns : goal.returns
returns c = c.found_of.ensures
