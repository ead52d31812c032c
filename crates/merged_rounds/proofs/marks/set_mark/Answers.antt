use Rattle.merged_rounds.proofs.WordLemmas.{marked_own, marked_rest}
use Rattle.merged_rounds.proofs.marks.set_mark.Goals as goal

pub returns-clause-own : goal.returns-clause-own
returns-clause-own c = marked_own c.args.words.now c.args.k c.requires

pub returns-clause-rest : goal.returns-clause-rest
returns-clause-rest c = λ j on. marked_rest c.args.words.now c.args.k j c.requires on
