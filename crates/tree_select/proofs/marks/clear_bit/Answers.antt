use Rattle.std.proofs.Common.{refl, false, arith, w64, ap}
use Rattle.std.specs.Prelude.{nat_eq}
use Rattle.std.proofs.lemmas.Nat.Bits.{bit_at_clear_same, bit_at_clear_other}
use Rattle.tree_select.proofs.MarkWords.{changed_own, changed_rest, off_bit}
use Rattle.tree_select.proofs.marks.clear_bit.Goals as goal

pub returns-clause-own : goal.returns-clause-own
returns-clause-own c = changed_own c.args.words.now _ c.args.n _ c.requires refl false (off_bit _ _ (bit_at_clear_same w64 _ _ (omega arith)))

pub returns-clause-rest : goal.returns-clause-rest
returns-clause-rest c = changed_rest c.args.words.now _ c.args.n _ c.requires refl (λ i l ne. ap (λ b. nat_eq b 1) (bit_at_clear_other w64 _ _ (omega arith)
    i l ne))
