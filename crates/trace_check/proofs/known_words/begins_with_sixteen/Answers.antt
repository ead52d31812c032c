use Rattle.trace_check.proofs.KnownLemmas.{same_sixteen}
use Rattle.trace_check.proofs.known_words.begins_with_sixteen.Goals as goal

pub returns-then-are_same_eight : goal.returns-then-are_same_eight
returns-then-are_same_eight c = λ last. same_sixteen c.args.text.now c.args.word.now c.requires.many c.requires.most (c.are_same_eight.ensures
    c.if-are_same_eight.true) (c.are_same_eight-then-are_same_eight.ensures last)
