use Rattle.std.proofs.Common.{Fits, ℕ, ◌≡◌, ◌+◌, ◌*◌, ◌^◌, ◌<◌, ◌≤◌, length, refl, sym, ap₂, ◌∙◌, subst, arith}
use Rattle.std.specs.Int.{w128}
use Rattle.text_words.proofs.TextLemmas.{take_rest}
use Rattle.text_words.proofs.DigitLemmas.{digits_on, wide_fits}
use Rattle.text_words.proofs.numbers.more_digits.Goals as goal

product_fits : (v w m p : ℕ) → v < 10 ^ 19 → m ≤ 19 → p ≡ 10 ^ m → w < 10 ^ m → Fits w128 (v * p)
product_fits v w m p small few is low = (let all = wide_fits v w m p small few is low in omega (arith, all))

sum_fits : (v w m p : ℕ) → v < 10 ^ 19 → m ≤ 19 → p ≡ 10 ^ m → w < 10 ^ m → Fits w128 (v * p + w)
sum_fits v w m p small few is low = (let all = wide_fits v w m p small few is low in omega (arith, all))

pub overflow_mul-high : goal.overflow_mul-high
overflow_mul-high c =
    product_fits c.from.result c.front_digits-count.result.1 c.front_digits-count.result.0 c.from-2.result (subst (λ n. n < 10 ^ 19) (sym c.from.ensures)
    c.requires.bound) c.front_digits-count.ensures.few
    (c.from-2.ensures ∙ c.ten_to.ensures) c.front_digits-count.ensures.bound

pub overflow_add-result-2 : goal.overflow_add-result-2
overflow_add-result-2 c =
    sum_fits c.from.result c.from-3.result c.front_digits-count.result.0 c.from-2.result (subst (λ n. n < 10 ^ 19) (sym c.from.ensures) c.requires.bound)
    c.front_digits-count.ensures.few
    (c.from-2.ensures ∙ c.ten_to.ensures) (subst (λ n. n < 10 ^ c.front_digits-count.result.0) (sym c.from-3.ensures) c.front_digits-count.ensures.bound)

pub returns-clause-digits : goal.returns-clause-digits
returns-clause-digits c =
    (digits_on c.args.text.now _ 19 c.front_digits-count.result.0 c.args.value c.front_digits-count.result.1 (take_rest 19 (length c.args.text.now)
    c.args.text.now refl) c.requires.digits c.requires.value
    c.front_digits-count.ensures.digits c.front_digits-count.ensures.within c.front_digits-count.ensures.value).0

pub returns-clause-value : goal.returns-clause-value
returns-clause-value c =
    ap₂ ◌+◌ (ap₂ ◌*◌ c.from.ensures (c.from-2.ensures ∙ c.ten_to.ensures)) c.from-3.ensures
    ∙ (digits_on c.args.text.now _ 19 c.front_digits-count.result.0 c.args.value c.front_digits-count.result.1 (take_rest 19 (length c.args.text.now)
    c.args.text.now refl) c.requires.digits c.requires.value
    c.front_digits-count.ensures.digits c.front_digits-count.ensures.within c.front_digits-count.ensures.value).1
