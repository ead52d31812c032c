use Rattle.std.proofs.Common.{ℕ, ◌≤◌, Fits, w64, arith, length, le_refl, le_trans, subst, sym}
use Rattle.row_totals.specs.Sums.{NamesAmong}
use Rattle.std.proofs.lemmas.Result.{IfOk-from_err}
use Rattle.sched_base.specs.Tables.{row_limit}
use Rattle.sched_edges.proofs.CauseLemmas.{cause_cut}
use Rattle.trace_writer.proofs.LaneLemmas.{written_none, written_few, written_fits, written_more, written_cut, written_all, page_smaller}
use Rattle.trace_writer.proofs.rows.write_lane.Goals as goal

pub pages-init : goal.pages-init
pages-init g c = (
  written_none c.args.set.now.tasks _ _ _ c.requires.whole,
  le_refl _,
  subst (NamesAmong (length c.args.set.now.tasks)) (sym c.requires.whole) c.requires.names,
)

pub returns-in_err-write_all-clause-wrote : goal.returns-in_err-write_all-clause-wrote
returns-in_err-write_all-clause-wrote g c =
    let wrote = rw c.as_slice.ensures at c.in_err-write_all.ensures.wrote in
    written_cut _ _ _ _ _ _ _ _ _ _ _ _ c.fill-lines.ensures.page c.pages.invariant.0 wrote c.from_residual.ensures.0

pub pages-preserved : goal.pages-preserved
pages-preserved g c =
    let wrote = rw c.as_slice.ensures at c.in_ok-write_all.ensures.wrote in (
      written_more _ _ _ _ _ _ _ _ _ _ c.fill-lines.ensures.page c.pages.invariant.0 wrote.ok,
      le_trans c.pages.invariant.1 c.write_all.ensures.cause.later,
      c.fill-lines.ensures.names,
    )

pub fill-lines-requires-clause-processor : goal.fill-lines-requires-clause-processor
fill-lines-requires-clause-processor g c = c.requires.processor

pub fill-lines-requires-clause-names : goal.fill-lines-requires-clause-names
fill-lines-requires-clause-names g c = c.pages.invariant.2

pub fill-lines-requires-clause-few : goal.fill-lines-requires-clause-few
fill-lines-requires-clause-few g c = written_few _ _ _ _ _ _ _ c.pages.invariant.0 c.requires.few

pub returns-then-lines-eq0-clause-wrote : goal.returns-then-lines-eq0-clause-wrote
returns-then-lines-eq0-clause-wrote g c = (written_all _ _ _ _ _ _ _ (c.fill-lines.ensures.end c.if-lines-eq0.true) c.pages.invariant.0).0

pub returns-then-lines-eq0-clause-count : goal.returns-then-lines-eq0-clause-count
returns-then-lines-eq0-clause-count g c = (written_all {T = ℕ} {E = Unit {0}} _ _ _ _ _ _ 0 (c.fill-lines.ensures.end c.if-lines-eq0.true)
    c.pages.invariant.0).1

pub returns-then-lines-eq0-clause-cause : goal.returns-then-lines-eq0-clause-cause
returns-then-lines-eq0-clause-cause g c = record { later = c.pages.invariant.1; failed = tt }

pub returns-in_err-write_all-clause-count : goal.returns-in_err-write_all-clause-count
returns-in_err-write_all-clause-count g c = IfOk-from_err _ _ c.from_residual.ensures.0

pub returns-in_err-write_all-clause-cause : goal.returns-in_err-write_all-clause-cause
returns-in_err-write_all-clause-cause g c = cause_cut _ _ _ _ _ c.pages.invariant.1 c.in_err-write_all.ensures.cause

limit_fits : (n : ℕ) → n ≤ row_limit → Fits w64 n
limit_fits n few = omega arith

pub overflow_add-count : goal.overflow_add-count
overflow_add-count g c = limit_fits _ (written_fits _ _ _ _ _ _ _ _ _ _ c.fill-lines.ensures.page c.pages.invariant.0 c.requires.few)

pub pages-smaller : goal.pages-smaller
pages-smaller g c = page_smaller _ _ _ _ _ c.fill-lines.ensures.page c.if-lines-eq0.false
