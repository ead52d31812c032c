use Rattle.std.proofs.Common.{refl, true, arith}
use Rattle.tree_select.proofs.MarkWords.{bit_more_own, bit_more_rest, changed_own, changed_rest}
use Rattle.tree_select.proofs.marks.set_bit.Goals as goal

pub returns-clause-own : goal.returns-clause-own
returns-clause-own c = changed_own c.args.words.now _ c.args.n _ c.requires refl true (bit_more_own _ _ (omega arith))

pub returns-clause-rest : goal.returns-clause-rest
returns-clause-rest c = changed_rest c.args.words.now _ c.args.n _ c.requires refl (λ i l ne. bit_more_rest _ _ i (omega arith) ne)
