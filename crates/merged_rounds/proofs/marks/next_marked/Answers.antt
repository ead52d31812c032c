use Rattle.std.proofs.Common.{arith, inl, inr}
use Rattle.std.proofs.lemmas.Bool.{cases_lt}
use Rattle.merged_rounds.proofs.WordLemmas.{unmarked_rest}
use Rattle.merged_rounds.proofs.marks.next_marked.Goals as goal

pub words-preserved : goal.words-preserved
words-preserved c =
    let up = c.words.invariant.0 in
    let later = c.behind_word-k.ensures.later in
    let none = c.if-rest-ne0.false in (
      omega (arith, up, later),
      λ j from low. elim (cases_lt j c.words.k) [
        | inl before ↦ c.words.invariant.1 j from before
        | inr behind ↦ unmarked_rest c.args.words.now c.words.k c.rest_at-rest.result c.behind_word-k.result c.rest_at-rest.ensures.value
            (omega (arith, none)) c.behind_word-k.ensures.same j behind low
      ],
    )
