use Rattle.std.proofs.Common.{ℕ, ◌≡◌, ◌+◌, ◌<◌, ◌^◌, true, false, [], ◌++◌, length, not, inl, inr, Fits, w64, subst, sym, ap, ◌∙◌, append_assoc, refl, arith}
use Rattle.std.proofs.lemmas.Bool.{cases_Bool, both_ways, eqb-false}
use Rattle.trace_check.specs.Tails.{left_at, FirstIsOther, LinesStand}
use Rattle.trace_check.proofs.RestLemmas.{difference_within, rest_within}
use Rattle.trace_check.proofs.TailLemmas.{stand_none, stand_more, stand_other, stand_past}
use Rattle.trace_check.proofs.WholeRowLemmas.{rest_is}
use Rattle.trace_check.proofs.tail_lines.Tail.take.Goals as goal

-- few lines were gone past
count_fits : (n left all : ℕ) → n + left ≡ all → all < 2 ^ 63 → Fits w64 (n + 1)
count_fits n left all sum few = omega arith

pub returns-in-Nothing-clause-other : goal.returns-in-Nothing-clause-other
returns-in-Nothing-clause-other c =
    let rest = c.loop-line.rest.now in
    let inv = c.loop-line.invariant in
    let empty = c.is_empty-is_other.result in
    λ other. subst (FirstIsOther c.args.ended (left_at c.args.self.now c.loop-line.place)) (sym (rest_is c.args.text.now inv.0.0 rest inv.0.1))
    (stand_past c.args.ended (left_at c.args.self.now c.loop-line.place) rest c.in-Nothing.ensures (elim (cases_Bool empty) [
      | inl t ↦ absurd (both_ways (not empty) (ap not t) other)
      | inr f ↦ eqb-false _ _ (sym c.is_empty-is_other.ensures ∙ f)
    ]))

pub returns-then-not-is_written-clause-other : goal.returns-then-not-is_written-clause-other
returns-then-not-is_written-clause-other c =
    let rest = c.loop-line.rest.now in
    let inv = c.loop-line.invariant in
    λ _. subst (FirstIsOther c.args.ended (left_at c.args.self.now c.loop-line.place)) (sym (rest_is c.args.text.now inv.0.0 rest inv.0.1))
    (stand_other c.args.ended (left_at c.args.self.now c.loop-line.place) (left_at c.args.self.now c.in-Line.next) rest c.in-Line.line c.in-Some.found.now
    c.in-Some.later.now c.in-Line.ensures.0 c.in-Some.ensures.some
    (λ e. (let same = c.if-not-is_written.ensures.1 e in cc)))

pub loop-line-preserved : goal.loop-line-preserved
loop-line-preserved c =
    let t = c.args.self.now in
    let inv = c.loop-line.invariant in
    let cut = c.in-Some.ensures.some in
    let is = c.in-Line.ensures.0 in
    let long = ap length is in
    let sum = inv.2 in (
      (inv.0.0 ++ cut.split.0, inv.0.1 ∙ ap (λ r. inv.0.0 ++ r) cut.split.1 ∙ sym (append_assoc inv.0.0 cut.split.0 c.in-Some.later.now)),
      c.in-Line.ensures.1,
      omega (arith, sum, long),
      stand_more c.args.ended _ (left_at t c.loop-line.place) (left_at t c.in-Line.next) c.args.text.now c.loop-line.rest.now c.in-Line.line
          c.in-Some.found.now c.in-Some.later.now c.loop-line.count inv.3 is cut
          (c.if-not-is_written.ensures.0 refl),
    )

-- none were gone past
none_gone : (n : ℕ) → 0 + n ≡ n
none_gone n = omega arith

pub loop-line-init : goal.loop-line-init
loop-line-init c = (([], refl), c.requires.place, none_gone _, stand_none c.args.ended _ c.args.text.now)

pub overflow_sub-gone : goal.overflow_sub-gone
overflow_sub-gone c = rest_within _ c.loop-line.invariant.0.0 _ c.loop-line.invariant.0.1

pub expected-requires-clause-tail : goal.expected-requires-clause-tail
expected-requires-clause-tail c = c.requires.tail

pub expected-requires-clause-place : goal.expected-requires-clause-place
expected-requires-clause-place c = c.loop-line.invariant.1

pub returns-in-Never-clause-within : goal.returns-in-Never-clause-within
returns-in-Never-clause-within c = difference_within _ _

pub returns-in-Never-clause-place : goal.returns-in-Never-clause-place
returns-in-Never-clause-place c = c.loop-line.invariant.1

pub returns-in-Never-clause-count : goal.returns-in-Never-clause-count
returns-in-Never-clause-count c = c.loop-line.invariant.2

pub returns-in-Never-clause-lines : goal.returns-in-Never-clause-lines
returns-in-Never-clause-lines c =
    let inv = c.loop-line.invariant in
    let t = c.args.self.now in
    subst (LinesStand c.args.ended (left_at t c.args.place) c.args.text.now c.loop-line.count (left_at t c.loop-line.place))
    (sym (rest_is c.args.text.now inv.0.0 c.loop-line.rest.now inv.0.1)) inv.3

pub returns-in-Nothing-clause-within : goal.returns-in-Nothing-clause-within
returns-in-Nothing-clause-within c = difference_within _ _

pub returns-in-Nothing-clause-place : goal.returns-in-Nothing-clause-place
returns-in-Nothing-clause-place c = c.loop-line.invariant.1

pub returns-in-Nothing-clause-count : goal.returns-in-Nothing-clause-count
returns-in-Nothing-clause-count c = c.loop-line.invariant.2

pub returns-in-Nothing-clause-lines : goal.returns-in-Nothing-clause-lines
returns-in-Nothing-clause-lines c =
    let inv = c.loop-line.invariant in
    let t = c.args.self.now in
    subst (LinesStand c.args.ended (left_at t c.args.place) c.args.text.now c.loop-line.count (left_at t c.loop-line.place))
    (sym (rest_is c.args.text.now inv.0.0 c.loop-line.rest.now inv.0.1)) inv.3

pub returns-then-not-is_written-clause-within : goal.returns-then-not-is_written-clause-within
returns-then-not-is_written-clause-within c = difference_within _ _

pub returns-then-not-is_written-clause-place : goal.returns-then-not-is_written-clause-place
returns-then-not-is_written-clause-place c = c.loop-line.invariant.1

pub returns-then-not-is_written-clause-count : goal.returns-then-not-is_written-clause-count
returns-then-not-is_written-clause-count c = c.loop-line.invariant.2

pub returns-then-not-is_written-clause-lines : goal.returns-then-not-is_written-clause-lines
returns-then-not-is_written-clause-lines c =
    let inv = c.loop-line.invariant in
    let t = c.args.self.now in
    subst (LinesStand c.args.ended (left_at t c.args.place) c.args.text.now c.loop-line.count (left_at t c.loop-line.place))
    (sym (rest_is c.args.text.now inv.0.0 c.loop-line.rest.now inv.0.1)) inv.3

pub returns-in-None-clause-within : goal.returns-in-None-clause-within
returns-in-None-clause-within c = difference_within _ _

pub returns-in-None-clause-place : goal.returns-in-None-clause-place
returns-in-None-clause-place c = c.loop-line.invariant.1

pub returns-in-None-clause-count : goal.returns-in-None-clause-count
returns-in-None-clause-count c = c.loop-line.invariant.2

pub returns-in-None-clause-lines : goal.returns-in-None-clause-lines
returns-in-None-clause-lines c =
    let inv = c.loop-line.invariant in
    let t = c.args.self.now in
    subst (LinesStand c.args.ended (left_at t c.args.place) c.args.text.now c.loop-line.count (left_at t c.loop-line.place))
    (sym (rest_is c.args.text.now inv.0.0 c.loop-line.rest.now inv.0.1)) inv.3

pub returns-in-Never-clause-all : goal.returns-in-Never-clause-all
returns-in-Never-clause-all c = λ ended is. (let e : true ≡ false = is in cc)

pub returns-then-not-is_written-clause-all : goal.returns-then-not-is_written-clause-all
returns-then-not-is_written-clause-all c = λ ended is. (let e : true ≡ false = is in cc)

pub overflow_add-count : goal.overflow_add-count
overflow_add-count c = count_fits _ _ _ c.loop-line.invariant.2 c.requires.few

pub loop-line-smaller : goal.loop-line-smaller
loop-line-smaller c = c.in-Some.ensures.some.less
