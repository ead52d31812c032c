use Rattle.std.proofs.Common.{◌<◌, ◌∙◌, [], ◌∷◌, ◌++◌, ap, decimal, length, refl, arith}
use Rattle.std.proofs.lemmas.Fmt.{length-decimal-le}
use Rattle.std.proofs.lemmas.Grind.{take-set_at}
use Rattle.trace_writer.proofs.pens.Lead.of.Goals as goal

pub bounds-bytes-end : goal.bounds-bytes-end
bounds-bytes-end c =
    let short = length-decimal-le 10 c.from.result (omega arith) (omega (arith, c.from.ensures, c.ranges.processor.fits)) (omega arith) in
    let end = c.put_number-end.ensures.end in
    omega (arith, short, end)

pub invariant_of-result : goal.invariant_of-result
invariant_of-result c =
    let short = length-decimal-le 10 c.from.result (omega arith) (omega (arith, c.from.ensures, c.ranges.processor.fits)) (omega arith) in
    let end = c.put_number-end.ensures.end in
    let long = c.put_number-end.auto.bytes in
    let within : c.put_number-end.result < length c.put_number-end.new.bytes = omega (arith, short, end, long) in (
      omega (arith, short, end),
      take-set_at c.put_number-end.new.bytes c.put_number-end.result _ 32 refl within
          ∙ ap (λ xs. xs ++ 32 ∷ []) (c.put_number-end.ensures.text ∙ ap (λ n. 114 ∷ (111 ∷ (119 ∷ (32 ∷ decimal n)))) c.from.ensures),
    )
