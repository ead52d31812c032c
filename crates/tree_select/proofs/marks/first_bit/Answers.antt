use Rattle.std.proofs.Common.{arith, refl, ◌<◌, ◌^◌, get_or}
use Rattle.std.specs.Int.RustNames.{bit_and}
use Rattle.std.proofs.lemmas.Nat.{and_le_r}
use Rattle.tree_select.proofs.MarkWords.{first_shown, first_marked, unmarked_all, unmarked_before}
use Rattle.tree_select.proofs.marks.first_bit.Goals as goal
use Rattle.tree_select.proofs.marks.first_bit.Goals.{Else-found-eq0}

-- what is found has bits, and fits its word
some : (c : Else-found-eq0) → 0 < bit_and (get_or c.args.words.now c.args.word 0) c.args.mask
some c = let ne = c.if-found-eq0.false in omega (arith, ne)

fits : (c : Else-found-eq0) → bit_and (get_or c.args.words.now c.args.word 0) c.args.mask < 2 ^ 64
fits c = let most = and_le_r (get_or c.args.words.now c.args.word 0) c.args.mask in let range = c.ranges.mask in omega (arith, most, range)

pub returns-then-found-eq0-clause-none : goal.returns-then-found-eq0-clause-none
returns-then-found-eq0-clause-none c = λ k is shown. unmarked_all c.args.words.now c.args.word c.args.mask c.if-found-eq0.true k shown

pub returns-else-found-eq0-clause-shown : goal.returns-else-found-eq0-clause-shown
returns-else-found-eq0-clause-shown c = first_shown c.args.words.now c.args.word c.args.mask (some c) (fits c) _ refl

pub returns-else-found-eq0-clause-marked : goal.returns-else-found-eq0-clause-marked
returns-else-found-eq0-clause-marked c = first_marked c.args.words.now c.args.word c.args.mask (some c) (fits c) _ refl

pub returns-else-found-eq0-clause-lowest : goal.returns-else-found-eq0-clause-lowest
returns-else-found-eq0-clause-lowest c = λ n k is shown before. unmarked_before c.args.words.now c.args.word c.args.mask (some c) (fits c) n k (cc) shown before
