use Rattle.std.proofs.Common.{◌≡◌, ℕ, ◌+◌, ◌-◌, ◌^◌, ◌&&◌, Bool, List, Option, map, min, take, MatchBool, ap, sym, subst, ◌∙◌, arith}
use Rattle.std.specs.Prelude.{sum}
use Rattle.std.proofs.lemmas.List.{take_all}
use Rattle.tree_check.specs.declared.written.Member.{Member}
use Rattle.tree_check.specs.Faults.{named}
use Rattle.tree_check.specs.Scans.{rate_in, HasBadAfter}
use Rattle.tree_check.proofs.MarkLemmas.{Placing}
use Rattle.tree_check.proofs.PlaceSteps.{IsPlaceStep, place_step, sum_step}
use Rattle.tree_check.proofs.marks.place.Goals as goal
use Rattle.tree_check.proofs.marks.place.Goals.{then-good, else-good}

pub loop-member-preserved : goal.loop-member-preserved
loop-member-preserved c =
    let rates = c.args.rates.now in
    let ms = c.args.members.now in
    let k = c.loop-member.member-index in
    let x = c.member-item.result in
    let f : Member → Option ℕ = named c.args.tree.now c.args.l in
    let step : IsPlaceStep rates f ms k x c.named-name.result c.mark-placed.result c.loop-member.marks c.mark-placed.new.marks = record {
      place = c.loop-member-test.true;
      member = c.member-item.is;
      name = c.named-name.ensures;
      marks = c.mark-placed.ensures.marks;
      placed_is = c.mark-placed.ensures.result;
    } in
    let good : c.if-good.good ≡ (c.loop-member.good && c.mark-placed.result) = elim c.if-good.branch [
      | then-good w ↦ w.good-is ∙ sym (ap (λ (b : Bool). b && c.mark-placed.result) w.if-good.true)
      | else-good w ↦ w.good-is ∙ w.if-good.false ∙ sym (ap (λ (b : Bool). b && c.mark-placed.result) w.if-good.false)
    ] in (
      c.mark-placed.auto.marks ∙ c.loop-member.invariant.0,
      (λ names a. subst (λ (b : Bool). Placing rates names (map f (take (k + 1) ms)) b c.mark-placed.new.marks) (sym good)
          (place_step rates f ms k x c.named-name.result c.loop-member.good c.mark-placed.result c.loop-member.marks c.mark-placed.new.marks step names
          (c.loop-member.invariant.1 names a))),
      c.saturating_add-sum.ensures ∙ ap (λ r. min (c.loop-member.sum + r) (2 ^ 128 - 1)) c.rate_named.ensures
          ∙ sum_step rates f ms k x c.named-name.result c.loop-member.sum c.loop-member-test.true c.member-item.is c.named-name.ensures
          c.loop-member.invariant.2,
    )

pub returns-then-good-2-clause-marks : goal.returns-then-good-2-clause-marks
returns-then-good-2-clause-marks c = λ names a.
    let f : Member → Option ℕ = named c.args.tree.now c.args.l in
    let e = take_all c.loop-member.member-index c.args.members.now (omega arith) in
    (subst (λ (ms : List Member). Placing c.args.rates.now names (map f ms) c.loop-member.good c.loop-member.marks) e (c.loop-member.invariant.1 names a)).are

pub returns-else-good-2-clause-marks : goal.returns-else-good-2-clause-marks
returns-else-good-2-clause-marks c = λ names a.
    let f : Member → Option ℕ = named c.args.tree.now c.args.l in
    let e = take_all c.loop-member.member-index c.args.members.now (omega arith) in
    (subst (λ (ms : List Member). Placing c.args.rates.now names (map f ms) c.loop-member.good c.loop-member.marks) e (c.loop-member.invariant.1 names a)).are

pub returns-then-good-2-clause-result : goal.returns-then-good-2-clause-result
returns-then-good-2-clause-result c = λ names a.
    let rates = c.args.rates.now in
    let f : Member → Option ℕ = named c.args.tree.now c.args.l in
    let ms = c.args.members.now in
    let e = take_all c.loop-member.member-index ms (omega arith) in
    let p = subst (λ (xs : List Member). Placing rates names (map f xs) c.loop-member.good c.loop-member.marks) e (c.loop-member.invariant.1 names a) in (
      subst (λ (b : Bool). MatchBool b (¬ HasBadAfter rates names (map f ms)) (HasBadAfter rates names (map f ms))) c.if-good-2.true p.good,
      c.loop-member.invariant.2 ∙ ap (λ xs. min (sum (map (rate_in rates) (map f xs))) (2 ^ 128 - 1)) e,
    )

pub returns-else-good-2-clause-result : goal.returns-else-good-2-clause-result
returns-else-good-2-clause-result c = λ names a.
    let rates = c.args.rates.now in
    let f : Member → Option ℕ = named c.args.tree.now c.args.l in
    let ms = c.args.members.now in
    let e = take_all c.loop-member.member-index ms (omega arith) in
    let p = subst (λ (xs : List Member). Placing rates names (map f xs) c.loop-member.good c.loop-member.marks) e (c.loop-member.invariant.1 names a) in
    subst (λ (b : Bool). MatchBool b (¬ HasBadAfter rates names (map f ms)) (HasBadAfter rates names (map f ms))) c.if-good-2.false p.good
