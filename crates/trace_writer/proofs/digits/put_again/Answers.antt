use Rattle.std.proofs.Common.{true≢false, ◌+◌, ◌-◌, ◌*◌, ◌/◌, ◌%◌, ◌^◌, ◌≡◌, ◌≤◌, ◌<◌, ◌∙◌, ◌++◌, ap, sym, take, arith}
use Rattle.std.specs.Fmt.{decimal}
use Rattle.trace_writer.specs.Digits.{low_digits}
use Rattle.trace_writer.proofs.DigitLemmas.{long_enough, cut_at_eight, cut_is, factors_some, parts_put}
use Rattle.trace_writer.proofs.digits.put_again.Goals as goal

pub returns-clause-text : goal.returns-clause-text
returns-clause-text c = λ _.
    let few = c.near_front-high.ensures in
    let high = c.near_front-high.result in
    let len = c.args.len in
    let raised = high / 10 ^ 8 * c.raise_of.result in
    let least : 10 ^ 7 ≤ raised = omega (arith, c.if-raised-lt10000000.false) in
    let most : raised < 10 ^ 8 = omega (arith, c.if-raised-ge-EIGHT.false) in
    let is = c.raise_of.ensures.raised (high / 10 ^ 8) least most in
    let some = factors_some (high / 10 ^ 8) c.raise_of.result (omega (arith, least)) in
    let some' : 10 ^ 8 ≤ high = omega (arith, some.0) in
    let long : 25 ≤ len = c.raise_of.ensures.long some.1 in
    let first : take (len - 24) c.put_block.new.bytes ≡ take (len - 24) (low_digits 8 raised) =
    ap (λ k. take k c.put_block.new.bytes) (omega arith) ∙ c.put_block.ensures.text ∙ ap (λ xs. take (len - 24) xs) c.eight_digits.ensures in
    let short : (c.args.number + (2 ^ 128 - high * 10 ^ 16)) % 2 ^ 128 < 10 ^ 16 = rw (
      c.from.ensures,
      c.from-2.ensures,
      c.from-else-raised-ge-EIGHT.ensures,
    ) at c.if-low-from.false in
    let middle : take (len - 24 + 8) c.put_eight.new.bytes ≡ take (len - 24) c.put_block.new.bytes ++ low_digits 8 (high % 10 ^ 8) =
    c.put_eight.ensures.text ∙ ap (λ n. take (len - 24) c.put_block.new.bytes ++ low_digits 8 n) (omega arith) in
    let last = rw (c.from.ensures, c.from-2.ensures) at c.put_sixteen.ensures.text in
    parts_put high _ raised len _ _ _ some' few short long is first middle last ∙ ap decimal (cut_is c.args.number high c.ranges.number.fits few short)

pub overflow_cast-high : goal.overflow_cast-high
overflow_cast-high c = (cut_at_eight _ c.near_front-high.ensures).fits

pub overflow_sub-len : goal.overflow_sub-len
overflow_sub-len c = (long_enough _ _ _ c.if-raised-lt10000000.false c.raise_of.ensures.long).1

pub overflow_sub-len-2 : goal.overflow_sub-len-2
overflow_sub-len-2 c = (long_enough _ _ _ c.if-raised-lt10000000.false c.raise_of.ensures.long).1

pub overflow_sub-len-3 : goal.overflow_sub-len-3
overflow_sub-len-3 c = (long_enough _ _ _ c.if-raised-lt10000000.false c.raise_of.ensures.long).0

pub overflow_mul-top : goal.overflow_mul-top
overflow_mul-top c = (cut_at_eight _ c.near_front-high.ensures).front_fits

pub overflow_sub-high : goal.overflow_sub-high
overflow_sub-high c = (cut_at_eight _ c.near_front-high.ensures).within

pub overflow_cast-high-2 : goal.overflow_cast-high-2
overflow_cast-high-2 c = (cut_at_eight _ c.near_front-high.ensures).rest_fits

pub put_eight-requires-clause-few : goal.put_eight-requires-clause-few
put_eight-requires-clause-few c = (cut_at_eight _ c.near_front-high.ensures).rest

pub returns-then-raised-lt10000000-clause-few : goal.returns-then-raised-lt10000000-clause-few
returns-then-raised-lt10000000-clause-few c = λ bad. absurd (true≢false (sym bad))

pub returns-then-raised-lt10000000-clause-text : goal.returns-then-raised-lt10000000-clause-text
returns-then-raised-lt10000000-clause-text c = λ bad. absurd (true≢false (sym bad))
