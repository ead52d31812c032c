use Rattle.std.proofs.Common.{◌+◌, ◌%◌, ◌^◌, ◌≡◌, ◌∙◌, ◌++◌, ap, sym, length, arith}
use Rattle.std.specs.Fmt.{decimal}
use Rattle.std.proofs.lemmas.Fmt.{length-decimal-le_wide}
use Rattle.trace_writer.specs.Digits.{low_digits}
use Rattle.trace_writer.proofs.DigitLemmas.{sixteen_length, sixteen_parts, then_written}
use Rattle.trace_writer.proofs.digits.put_wide.Goals as goal

pub put_sixteen-requires-clause-room : goal.put_sixteen-requires-clause-room
put_sixteen-requires-clause-room c =
    let high = c.cut-high.ensures.high in
    let few = c.requires.few in
    let short = length-decimal-le_wide 7 c.cut-high.result.0 (omega arith) (omega (arith, high, few)) (omega (arith, high, few)) in
    let room = c.requires.room in
    let end = c.put_few-end.ensures.end in
    omega (arith, short, room, end)

pub returns-clause-end : goal.returns-clause-end
returns-clause-end c =
    let long : length (decimal c.args.number) ≡ length (decimal c.cut-high.result.0) + 16 =
    sixteen_length c.args.number c.requires.long (omega (arith, c.requires.few)) ∙ ap (λ n. length (decimal n) + 16) (sym c.cut-high.ensures.high) in
    let end = c.put_few-end.ensures.end in
    omega (arith, long, end)

pub returns-clause-text : goal.returns-clause-text
returns-clause-text c =
    let parts : decimal c.args.number ≡ decimal c.cut-high.result.0 ++ low_digits 16 c.cut-high.result.1 =
    sixteen_parts c.args.number c.requires.long (omega (arith, c.requires.few)) ∙ ap (λ n. decimal n ++ low_digits 16 (c.args.number % 10 ^ 16))
    (sym c.cut-high.ensures.high) ∙ ap (λ n. decimal c.cut-high.result.0 ++ low_digits 16 n) (sym c.cut-high.ensures.low) in
    then_written _ _ _ _ _ _ parts c.put_few-end.ensures.text c.put_sixteen.ensures.text
