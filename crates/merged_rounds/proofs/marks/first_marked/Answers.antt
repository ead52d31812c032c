use Rattle.std.proofs.Common.{arith}
use Rattle.merged_rounds.proofs.WordLemmas.{unmarked_before}
use Rattle.merged_rounds.proofs.marks.first_marked.Goals as goal

pub returns-clause-skipped : goal.returns-clause-skipped
returns-clause-skipped c = λ j up low.
    let least = c.min.ensures in
    let zeros = c.from.ensures in
    unmarked_before c.args.words.now c.args.k c.args.rest c.behind_word.result c.requires.rest c.requires.some c.requires.fits c.behind_word.ensures.same j
    up (omega (arith, low, least)) (omega (arith, low, least, zeros))
