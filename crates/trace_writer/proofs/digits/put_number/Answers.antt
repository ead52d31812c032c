use Rattle.std.proofs.Common.{◌+◌, ◌%◌, ◌^◌, ◌≡◌, ◌∙◌, ◌++◌, ap, sym, length, arith}
use Rattle.std.specs.Fmt.{decimal}
use Rattle.std.proofs.lemmas.Fmt.{length-decimal-le_wide}
use Rattle.trace_writer.specs.Digits.{low_digits}
use Rattle.trace_writer.proofs.DigitLemmas.{sixteen_length, sixteen_parts, then_written}
use Rattle.trace_writer.proofs.digits.put_number.Goals as goal

pub returns-then-number-from-clause-few : goal.returns-then-number-from-clause-few
returns-then-number-from-clause-few c =
    let small = c.if-number-from.true in
    let short = length-decimal-le_wide 20 c.args.number (omega arith) (omega (arith, small)) (omega (arith, small)) in
    let same : length (decimal (c.args.number % 2 ^ 64)) ≡ length (decimal c.args.number) = ap (λ n. length (decimal n)) (omega (arith, small)) in
    let end = c.put_short.ensures.end in
    omega (arith, short, same, end)

pub put_sixteen-requires-clause-room : goal.put_sixteen-requires-clause-room
put_sixteen-requires-clause-room c =
    let high = c.cut-high.ensures.high in
    let short = length-decimal-le_wide 23 c.cut-high.result.0 (omega arith) (omega (arith, high)) (omega (arith, high)) in
    let room = c.requires.room in
    let end = c.put_high-end.ensures.end in
    omega (arith, short, room, end)

pub returns-clause-few : goal.returns-clause-few
returns-clause-few c =
    let high = c.cut-high.ensures.high in
    let short = length-decimal-le_wide 23 c.cut-high.result.0 (omega arith) (omega (arith, high)) (omega (arith, high)) in
    let end = c.put_high-end.ensures.end in
    omega (arith, short, end)

pub returns-clause-end : goal.returns-clause-end
returns-clause-end c =
    let long : length (decimal c.args.number) ≡ length (decimal c.cut-high.result.0) + 16 =
    sixteen_length c.args.number (omega (arith, c.if-number-from.false)) (omega arith) ∙ ap (λ n. length (decimal n) + 16) (sym c.cut-high.ensures.high) in
    let end = c.put_high-end.ensures.end in
    omega (arith, long, end)

pub returns-clause-text : goal.returns-clause-text
returns-clause-text c =
    let parts : decimal c.args.number ≡ decimal c.cut-high.result.0 ++ low_digits 16 c.cut-high.result.1 =
    sixteen_parts c.args.number (omega (arith, c.if-number-from.false)) (omega arith) ∙ ap (λ n. decimal n ++ low_digits 16 (c.args.number % 10 ^ 16))
    (sym c.cut-high.ensures.high) ∙ ap (λ n. decimal c.cut-high.result.0 ++ low_digits 16 n) (sym c.cut-high.ensures.low) in
    then_written _ _ _ _ _ _ parts c.put_high-end.ensures.text c.put_sixteen.ensures.text
