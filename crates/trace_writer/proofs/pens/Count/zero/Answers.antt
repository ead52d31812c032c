use Rattle.std.proofs.Common.{[], ◌++◌, ◌∷◌, ap, refl, sym, arith}
use Rattle.std.proofs.lemmas.Fmt.{decimal_digit}
use Rattle.trace_writer.proofs.pens.Count.zero.Goals as goal

pub invariant_of-result : goal.invariant_of-result
invariant_of-result c = record {
  front = record { few = omega arith; digits = refl };
  few = omega arith;
  digits = sym (decimal_digit 0 (omega arith));
  word = sym (ap (λ ds. ds ++ 32 ∷ []) (decimal_digit 0 (omega arith)));
}
