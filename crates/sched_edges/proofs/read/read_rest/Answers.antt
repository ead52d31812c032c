use Rattle.std.proofs.Common.{ℕ, ◌+◌, ◌≤◌, length, ap, arith, length-take, length-append}
use Rattle.std.proofs.Math.Nat.{le_trans}
use Rattle.std.proofs.lemmas.Result.{err_from_is_err_and}
use Rattle.std.proofs.KnownBytes.{Consumes-trans}
use Rattle.sched_edges.proofs.Pieces.{gave_at_most, gave_some_more, gave_all, gave_count, rose_later, handed_on, ok_is_no_fault, same_count, long_is_no_failure}
use Rattle.sched_edges.proofs.read.read_rest.Goals as goal

pub returns-in_err-count-clause-all : goal.returns-in_err-count-clause-all
returns-in_err-count-clause-all g c =
    let (fault, is, same) = err_from_is_err_and c.from_residual.result c.from_residual.ensures.1 in
    rw is tt

pub returns-in_err-count-clause-too_long : goal.returns-in_err-count-clause-too_long
returns-in_err-count-clause-too_long g c =
    let (fault, is, same) = err_from_is_err_and c.from_residual.result c.from_residual.ensures.1 in
    λ count long. absurd (c.in_err-count.ensures.short count (handed_on is same long))

pub returns-in_err-count-clause-bounded : goal.returns-in_err-count-clause-bounded
returns-in_err-count-clause-bounded g c =
    let (fault, is, same) = err_from_is_err_and c.from_residual.result c.from_residual.ensures.1 in
    rw is (gave_at_most _ _ _ _ _ _ c.loop-count.invariant.1 c.in_err-count.ensures.bounded (omega (arith, length-take {A = ℕ})))

pub returns-in_err-count-clause-unfinished : goal.returns-in_err-count-clause-unfinished
returns-in_err-count-clause-unfinished g c =
    let (fault, is, same) = err_from_is_err_and c.from_residual.result c.from_residual.ensures.1 in
    let within = c.loop-count.invariant.0 in
    λ failed. gave_at_most _ _ _ _ _ _ c.loop-count.invariant.1 (c.in_err-count.ensures.none (handed_on is same failed)) (omega (arith, within))

pub returns-in_err-count-clause-later : goal.returns-in_err-count-clause-later
returns-in_err-count-clause-later g c = le_trans c.loop-count.invariant.2 c.in_err-count.ensures.later

pub returns-in_err-count-clause-read : goal.returns-in_err-count-clause-read
returns-in_err-count-clause-read g c =
    let (fault, is, same) = err_from_is_err_and c.from_residual.result c.from_residual.ensures.1 in
    λ failed. rose_later _ (g.R.Source.faults c.loop-count.source) _ c.loop-count.invariant.2 (c.in_err-count.ensures.read (handed_on is same failed))

pub returns-then-count-eq0-clause-all : goal.returns-then-count-eq0-clause-all
returns-then-count-eq0-clause-all g c =
    let (more, counted, grows, gave) = c.in_ok-count.ensures.grows in
    gave_all _ _ _ _ more _ _ _ c.loop-count.invariant.1 gave grows counted (c.in_ok-count.ensures.end c.if-count-eq0.true) c.if-count-eq0.true
    c.loop-count.invariant.0

pub returns-then-count-eq0-clause-too_long : goal.returns-then-count-eq0-clause-too_long
returns-then-count-eq0-clause-too_long g c = λ count is. absurd (ok_is_no_fault is)

pub returns-then-count-eq0-clause-unfinished : goal.returns-then-count-eq0-clause-unfinished
returns-then-count-eq0-clause-unfinished g c = λ is. absurd (ok_is_no_fault is)

pub returns-then-count-eq0-clause-later : goal.returns-then-count-eq0-clause-later
returns-then-count-eq0-clause-later g c = le_trans c.loop-count.invariant.2 c.in_ok-count.ensures.later

pub returns-then-count-eq0-clause-read : goal.returns-then-count-eq0-clause-read
returns-then-count-eq0-clause-read g c = λ is. absurd (ok_is_no_fault is)

pub returns-then-len-limit-clause-too_long : goal.returns-then-len-limit-clause-too_long
returns-then-len-limit-clause-too_long g c =
    let (more, counted, grows, gave) = c.in_ok-count.ensures.grows in
    let within : length c.loop-count.bytes.items + length more ≤ c.args.limit + 1 = omega (arith, length-take {A = ℕ}, c.in_ok-count.ensures.count, counted) in
    λ count is. gave_count _ _ _ _ more _ _ count c.loop-count.invariant.1 gave grows (let same = same_count is in omega arith) (let same = same_count is in
    omega arith) within

pub returns-then-len-limit-clause-bounded : goal.returns-then-len-limit-clause-bounded
returns-then-len-limit-clause-bounded g c =
    let (more, counted, grows, gave) = c.in_ok-count.ensures.grows in
    gave_some_more _ _ _ _ more _ c.loop-count.invariant.1 gave (omega (arith, length-take {A = ℕ}, c.in_ok-count.ensures.count))

pub returns-then-len-limit-clause-unfinished : goal.returns-then-len-limit-clause-unfinished
returns-then-len-limit-clause-unfinished g c = λ is. absurd (long_is_no_failure is)

pub returns-then-len-limit-clause-later : goal.returns-then-len-limit-clause-later
returns-then-len-limit-clause-later g c = le_trans c.loop-count.invariant.2 c.in_ok-count.ensures.later

pub returns-then-len-limit-clause-read : goal.returns-then-len-limit-clause-read
returns-then-len-limit-clause-read g c = λ is. absurd (long_is_no_failure is)

pub loop-count-smaller : goal.loop-count-smaller
loop-count-smaller g c =
    let (more, counted, grows, gave) = c.in_ok-count.ensures.grows in
    let long = ap length grows in
    let some = c.if-count-eq0.false in
    let within = c.loop-count.invariant.0 in
    omega (arith, length-append c.loop-count.bytes.items more, counted)

pub loop-count-preserved : goal.loop-count-preserved
loop-count-preserved g c =
    let (more, counted, grows, gave) = c.in_ok-count.ensures.grows in
    (omega arith, rw grows (Consumes-trans _ _ _ _ more c.loop-count.invariant.1 gave), le_trans c.loop-count.invariant.2 c.in_ok-count.ensures.later)
