use Rattle.std.proofs.Common.{ℕ, ◌+◌, ◌^◌, ◌<◌, ◌≤◌, ◌≡◌, ◌∙◌, List, ◌++◌, length, length-append, decimal, ap, arith}
use Rattle.std.proofs.lemmas.Fmt.{length-decimal-le_wide}
use Rattle.trace_draw.proofs.head.add_units.Goals as goal

-- a number of units has at most ten digits
ten_digits : (a b c : List ℕ) (n : ℕ) → n < 2 ^ 33 → c ≡ a ++ (b ++ decimal n) → length c ≤ length a + length b + 10
ten_digits a b c n small is =
    let digits = length-decimal-le_wide 10 n (omega arith) (omega (arith, small)) (omega (arith, small)) in
    let long = ap length is ∙ length-append a (b ++ decimal n) in
    let behind = length-append b (decimal n) in
    omega (arith, digits, long, behind)

pub returns-clause-short : goal.returns-clause-short
returns-clause-short c = ten_digits c.args.line.now c.args.text.now c.add_number.new.line c.args.units c.requires.units c.add_number.ensures.text
