use Rattle.std.proofs.Common.{ℕ, ◌≡◌, ◌*◌, ◌^◌, ◌<◌, ◌≤◌, ◌∙◌, List, [], ◌∷◌, length, get_or, Fits, w64, subst, sym, arith}
use Rattle.std.specs.List.{AllByRecursion}
use Rattle.trace_verdict.proofs.PartLemmas.{all_get}
use Rattle.trace_draw.specs.Head.{axis_step}
use Rattle.trace_draw.proofs.HeadLemmas.{step_first, step_second, step_third, step_next}
use Rattle.trace_draw.proofs.head.axis_step.Goals as goal

abbrev tens : List ℕ
tens = 1 ∷ 10 ∷ 100 ∷ 1000 ∷ 10_000 ∷ 100_000 ∷ 1_000_000 ∷ 10_000_000 ∷ 100_000_000 ∷ 1_000_000_000 ∷ []

record IsTen (n : ℕ) : Type 0 where
  pub some : 1 ≤ n
  pub most : n ≤ 1_000_000_000

is_ten : (n : ℕ) → 1 ≤ n → n ≤ 1_000_000_000 → IsTen n
is_ten n some most = record { some = some; most = most }

are_tens : AllByRecursion IsTen tens
are_tens = (
  is_ten 1 (omega arith) (omega arith),
  (
    is_ten 10 (omega arith) (omega arith),
    (
      is_ten 100 (omega arith) (omega arith),
      (
        is_ten 1000 (omega arith) (omega arith),
        (
          is_ten 10_000 (omega arith) (omega arith),
          (
            is_ten 100_000 (omega arith) (omega arith),
            (
              is_ten 1_000_000 (omega arith) (omega arith),
              (
                is_ten 10_000_000 (omega arith) (omega arith),
                (
                  is_ten 100_000_000 (omega arith) (omega arith),
                  (is_ten 1_000_000_000 (omega arith) (omega arith), tt),
                ),
              ),
            ),
          ),
        ),
      ),
    ),
  ),
)

ten_at : (i ten : ℕ) → i < length tens → ten ≡ get_or tens i 0 → IsTen ten
ten_at i ten h is = subst IsTen (sym is) (all_get IsTen tens i 0 are_tens h)

fits_12 : (n : ℕ) → IsTen n → Fits w64 (12 * n)
fits_12 n t = omega (arith, t.most)

fits_24 : (n : ℕ) → IsTen n → Fits w64 (24 * n)
fits_24 n t = omega (arith, t.most)

fits_2 : (n : ℕ) → IsTen n → Fits w64 (2 * n)
fits_2 n t = omega (arith, t.most)

fits_60 : (n : ℕ) → IsTen n → Fits w64 (60 * n)
fits_60 n t = omega (arith, t.most)

fits_5 : (n : ℕ) → IsTen n → Fits w64 (5 * n)
fits_5 n t = omega (arith, t.most)

some_2 : (n : ℕ) → IsTen n → 0 < 2 * n
some_2 n t = omega (arith, t.some)

some_5 : (n : ℕ) → IsTen n → 0 < 5 * n
some_5 n t = omega (arith, t.some)

small_1 : (n : ℕ) → IsTen n → n < 2 ^ 35
small_1 n t = omega (arith, t.most)

small_2 : (n : ℕ) → IsTen n → 2 * n < 2 ^ 35
small_2 n t = omega (arith, t.most)

small_5 : (n : ℕ) → IsTen n → 5 * n < 2 ^ 35
small_5 n t = omega (arith, t.most)

pub returns-then-units-ten-clause-value : goal.returns-then-units-ten-clause-value
unfolding axis_step
returns-then-units-ten-clause-value c =
    let tens : List ℕ = 1 ∷ 10 ∷ 100 ∷ 1000 ∷ 10_000 ∷ 100_000 ∷ 1_000_000 ∷ 10_000_000 ∷ 100_000_000 ∷ 1_000_000_000 ∷ [] in
    sym (step_first tens c.loop-ten.ten-index c.from-ten.result c.args.units c.loop-ten-test.true c.from-ten.ensures c.if-units-ten.true) ∙ c.loop-ten.invariant

pub returns-then-units-ten-2-clause-value : goal.returns-then-units-ten-2-clause-value
unfolding axis_step
returns-then-units-ten-2-clause-value c =
    sym (step_second tens c.loop-ten.ten-index c.from-ten.result c.args.units c.loop-ten-test.true c.from-ten.ensures c.if-units-ten.false
    c.if-units-ten-2.true) ∙ c.loop-ten.invariant

pub returns-then-units-ten-3-clause-value : goal.returns-then-units-ten-3-clause-value
unfolding axis_step
returns-then-units-ten-3-clause-value c =
    sym (step_third tens c.loop-ten.ten-index c.from-ten.result c.args.units c.loop-ten-test.true c.from-ten.ensures c.if-units-ten.false
    c.if-units-ten-2.false c.if-units-ten-3.true) ∙ c.loop-ten.invariant

pub loop-ten-preserved : goal.loop-ten-preserved
loop-ten-preserved c =
    let tens : List ℕ = 1 ∷ 10 ∷ 100 ∷ 1000 ∷ 10_000 ∷ 100_000 ∷ 1_000_000 ∷ 10_000_000 ∷ 100_000_000 ∷ 1_000_000_000 ∷ [] in
    sym (step_next tens c.loop-ten.ten-index c.from-ten.result c.args.units c.loop-ten-test.true c.from-ten.ensures c.if-units-ten.false
    c.if-units-ten-2.false c.if-units-ten-3.false)
    ∙ c.loop-ten.invariant

pub overflow_mul-ten : goal.overflow_mul-ten
overflow_mul-ten c = fits_12 c.from-ten.result (ten_at c.loop-ten.ten-index c.from-ten.result c.loop-ten-test.true c.from-ten.ensures)

pub returns-then-units-ten-clause-some : goal.returns-then-units-ten-clause-some
returns-then-units-ten-clause-some c = (ten_at c.loop-ten.ten-index c.from-ten.result c.loop-ten-test.true c.from-ten.ensures).some

pub returns-then-units-ten-clause-fits : goal.returns-then-units-ten-clause-fits
returns-then-units-ten-clause-fits c = small_1 c.from-ten.result (ten_at c.loop-ten.ten-index c.from-ten.result c.loop-ten-test.true c.from-ten.ensures)

pub overflow_mul-ten-in-loop-ten : goal.overflow_mul-ten-in-loop-ten
overflow_mul-ten-in-loop-ten c = fits_24 c.from-ten.result (ten_at c.loop-ten.ten-index c.from-ten.result c.loop-ten-test.true c.from-ten.ensures)

pub overflow_mul-result : goal.overflow_mul-result
overflow_mul-result c = fits_2 c.from-ten.result (ten_at c.loop-ten.ten-index c.from-ten.result c.loop-ten-test.true c.from-ten.ensures)

pub returns-then-units-ten-2-clause-some : goal.returns-then-units-ten-2-clause-some
returns-then-units-ten-2-clause-some c = some_2 c.from-ten.result (ten_at c.loop-ten.ten-index c.from-ten.result c.loop-ten-test.true c.from-ten.ensures)

pub returns-then-units-ten-2-clause-fits : goal.returns-then-units-ten-2-clause-fits
returns-then-units-ten-2-clause-fits c = small_2 c.from-ten.result (ten_at c.loop-ten.ten-index c.from-ten.result c.loop-ten-test.true c.from-ten.ensures)

pub overflow_mul-ten-in-loop-ten-2 : goal.overflow_mul-ten-in-loop-ten-2
overflow_mul-ten-in-loop-ten-2 c = fits_60 c.from-ten.result (ten_at c.loop-ten.ten-index c.from-ten.result c.loop-ten-test.true c.from-ten.ensures)

pub overflow_mul-result-then-units-ten-3 : goal.overflow_mul-result-then-units-ten-3
overflow_mul-result-then-units-ten-3 c = fits_5 c.from-ten.result (ten_at c.loop-ten.ten-index c.from-ten.result c.loop-ten-test.true c.from-ten.ensures)

pub returns-then-units-ten-3-clause-some : goal.returns-then-units-ten-3-clause-some
returns-then-units-ten-3-clause-some c = some_5 c.from-ten.result (ten_at c.loop-ten.ten-index c.from-ten.result c.loop-ten-test.true c.from-ten.ensures)

pub returns-then-units-ten-3-clause-fits : goal.returns-then-units-ten-3-clause-fits
returns-then-units-ten-3-clause-fits c = small_5 c.from-ten.result (ten_at c.loop-ten.ten-index c.from-ten.result c.loop-ten-test.true c.from-ten.ensures)
