use Rattle.std.proofs.Common.{◌≡◌, ◌<◌, ◌∙◌, None, Some, ap, arith, subst, sym}
use Rattle.std.specs.Prelude.{slice_get}
use Rattle.std.proofs.lemmas.Option.{slice_get-get_or, slice_get_within}
use borrow.Author.Count.{below_more}
use Rattle.book_steps.proofs.tell.lowest_fault.Goals as goal

pub returns-in-Some-clause-some : goal.returns-in-Some-clause-some
returns-in-Some-clause-some c =
    slice_get-get_or c.args.faults.now c.loop-p.p None (subst (λ n. c.loop-p.p < n) c.requires c.loop-p-test.true) ∙ ap Some c.in-Some.is

pub returns-in-Some-clause-lowest : goal.returns-in-Some-clause-lowest
returns-in-Some-clause-lowest c = c.loop-p.invariant

pub loop-p-preserved : goal.loop-p-preserved
loop-p-preserved c =
    let faults = c.args.faults.now in
    below_more (λ k. slice_get faults k ≡ Some None) c.loop-p.p c.loop-p.invariant
    (slice_get-get_or faults c.loop-p.p None (subst (λ n. c.loop-p.p < n) c.requires c.loop-p-test.true) ∙ ap Some c.in_default.is)

pub returns-clause-none : goal.returns-clause-none
returns-clause-none c = λ q why had.
    let faults = c.args.faults.now in
    let low = slice_get_within faults q (Some why) had in
    let end = c.loop-p-test.false in
    let all = c.requires in
    let e : Some None ≡ Some (Some why) = sym (c.loop-p.invariant q (omega (arith, low, end, all))) ∙ had in
    cc
