use Rattle.trace_check.proofs.KnownLemmas.{spaced_is, word_taken}
use Rattle.trace_check.proofs.known_words.cut_short.Goals as goal

pub invariant_of-result : goal.invariant_of-result
invariant_of-result c = record { known = spaced_is _ _ (word_taken c.in_ok-number.number c.args.text.now c.in_ok-number.rest.now c.in_ok-number.ensures) }
