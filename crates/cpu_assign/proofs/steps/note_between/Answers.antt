use Rattle.std.proofs.Common.{arith, refl, ap, subst, get_or, None, Option, ℕ, ◌-◌, ◌≡◌}
use Rattle.cpu_assign.proofs.NoteLemmas.{note_all, note_step, noted_from, noted_rest}
use Rattle.std.proofs.lemmas.Bool.{both_ways}
use Rattle.sched_base.specs.Candidates.{is_at}
use Rattle.cpu_assign.specs.Noted.{AreNoted}
use Rattle.cpu_assign.proofs.steps.note_between.Goals as goal

pub loop-p-init : goal.loop-p-init
loop-p-init c = (c.requires.to, c.requires.order, noted_from c.args.onto.now c.args.last.now c.args.to c.requires.to c.requires.noted)

pub returns : goal.returns
returns c =
    let off = c.loop-p-test.false in
    let least = c.loop-p.invariant.1 in
    let most = c.loop-p.invariant.0 in
    let at : c.loop-p.p ≡ c.args.from = omega (arith, off, least) in
    let noted = subst (λ (n : ℕ). AreNoted c.args.onto.now c.args.last.now c.loop-p.last n) at c.loop-p.invariant.2 in
    note_all c.args.onto.now c.args.last.now c.loop-p.last 0 refl
    (noted_rest c.args.onto.now c.args.last.now c.loop-p.last c.args.from (omega (arith, at, most)) noted c.requires.packs c.requires.below c.requires.once)

pub loop-p-preserved : goal.loop-p-preserved
loop-p-preserved c =
    let most = c.loop-p.invariant.0 in let on = c.loop-p-test.true in (
      omega (arith, most, on),
      omega (arith, on),
      note_step c.args.onto.now c.args.last.now c.loop-p.last c.loop-p.last c.loop-p.p (c.loop-p.p - 1) (omega (arith, on)) most c.loop-p.invariant.2 refl
          (λ i b at. absurd (both_ways (is_at (get_or c.args.onto.now (c.loop-p.p - 1) None) i) (ap (λ (o : Option ℕ). is_at o i) c.in_default.is) at))
          (λ i b off. refl),
    )

pub bounds : goal.bounds
bounds c = let most = c.loop-p.invariant.0 in let on = c.loop-p-test.true in omega (arith, most, on)

pub bounds-onto-p : goal.bounds-onto-p
bounds-onto-p c = let most = c.loop-p.invariant.0 in let on = c.loop-p-test.true in omega (arith, most, on)

pub bounds-last-i : goal.bounds-last-i
bounds-last-i c = let b = c.requires.packs (c.loop-p.p - 1) c.in-Some.i c.in-Some.is in let kept = c.loop-p.auto.last in omega (arith, b, kept)

pub loop-p-smaller-in-Some : goal.loop-p-smaller-in-Some
loop-p-smaller-in-Some c = let on = c.loop-p-test.true in omega (arith, on)

pub loop-p-smaller : goal.loop-p-smaller
loop-p-smaller c = let on = c.loop-p-test.true in omega (arith, on)
