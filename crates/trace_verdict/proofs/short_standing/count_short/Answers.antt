use Rattle.std.proofs.Common.{Fits, w64, ◌≡◌, ◌+◌, ◌<◌, ◌≤◌, ◌^◌, ℕ, Bool, true, false, map, length, get_or, sym, subst, arith}
use Rattle.std.proofs.lemmas.List.{length-map}
use Rattle.sched_base.specs.Counting.{bit}
use Rattle.trace_verdict.specs.Faults.{IsTraceRow}
use Rattle.trace_verdict.specs.RowLists.{row_for}
use Rattle.trace_verdict.proofs.IndexLemmas.{all_at}
use Rattle.trace_verdict.proofs.ShortLemmas.{stands_none, stands_more, stands_all, short_at}
use Rattle.trace_verdict.proofs.short_standing.count_short.Goals as goal

sum_fits : (total i n : ℕ) (b : Bool) → total ≤ i → i < n → n < 2 ^ 32 → Fits w64 (total + bit b)
sum_fits total i n true few within most = omega arith
sum_fits total i n false few within most = omega arith

pub loop-row-init : goal.loop-row-init
loop-row-init c = stands_none c.args.set.now c.args.scale (map row_for c.args.rows.now) (row_for c.none-last.result) c.none-last.ensures.processor
    c.none-last.ensures.end

pub goes_on-requires-clause-row : goal.goes_on-requires-clause-row
goes_on-requires-clause-row c =
    let items = c.args.rows.now in
    let i = c.loop-row.row-index in
    let within = c.loop-row-test.true in
    subst (IsTraceRow c.args.set.now) (sym (short_at items i _ within)) (all_at (IsTraceRow c.args.set.now) (map row_for items) c.requires.each i
    (subst (λ n. i < n) (sym (length-map items row_for)) within))

pub overflow_add-total : goal.overflow_add-total
overflow_add-total c =
    subst (λ n. Fits w64 (c.loop-row.total + n)) (sym c.one_if-total.ensures) (sum_fits c.loop-row.total c.loop-row.row-index (length c.args.rows.now) _
    c.loop-row.invariant.few c.loop-row-test.true c.requires.few)

pub loop-row-preserved : goal.loop-row-preserved
loop-row-preserved c =
    let items = c.args.rows.now in
    let i = c.loop-row.row-index in
    let within = c.loop-row-test.true in
    let goes = c.if-not-goes_on.false in
    let sum = subst (λ b. c.one_if-total.result ≡ bit b) c.is_of_task.ensures c.one_if-total.ensures in
    stands_more c.args.set.now c.args.scale (map row_for items) i c.loop-row.total (c.loop-row.total + c.one_if-total.result) (row_for c.loop-row.last)
    (row_for (get_or items i _)) _ c.loop-row.invariant
    (subst (λ n. i < n) (sym (length-map items row_for)) within) (short_at items i _ within) (c.goes_on.ensures.after goes) (c.goes_on.ensures.fit goes)
    (omega (arith, sum))

pub returns-clause-stands : goal.returns-clause-stands
returns-clause-stands c =
    let long = length-map c.args.rows.now row_for in
    (stands_all c.args.set.now c.args.scale (map row_for c.args.rows.now) c.loop-row.row-index c.loop-row.total (row_for c.loop-row.last)
    c.loop-row.invariant (omega (arith, long, c.loop-row-test.false))).0

pub returns-clause-fit : goal.returns-clause-fit
returns-clause-fit c =
    let long = length-map c.args.rows.now row_for in
    (stands_all c.args.set.now c.args.scale (map row_for c.args.rows.now) c.loop-row.row-index c.loop-row.total (row_for c.loop-row.last)
    c.loop-row.invariant (omega (arith, long, c.loop-row-test.false))).1

pub returns-clause-total : goal.returns-clause-total
returns-clause-total c =
    let long = length-map c.args.rows.now row_for in
    (stands_all c.args.set.now c.args.scale (map row_for c.args.rows.now) c.loop-row.row-index c.loop-row.total (row_for c.loop-row.last)
    c.loop-row.invariant (omega (arith, long, c.loop-row-test.false))).2
