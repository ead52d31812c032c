use Rattle.trace_check.proofs.KnownLemmas.{front_is, row_taken}
use Rattle.trace_check.proofs.known_words.cut_front.Goals as goal

pub invariant_of-result : goal.invariant_of-result
invariant_of-result c =
    record {
      known = front_is _ _ (row_taken c.in_ok-processor.processor c.args.text.now c.in_ok-rest.rest.now c.in_ok-processor.rest.now
          c.in_ok-rest.ensures c.in_ok-processor.ensures);
    }
