use Rattle.std.proofs.Common.{◌∙◌, refl, ap, length-set}
use Rattle.rand_core.specs.Steps.{first_words}
use Rattle.rand_pcg.specs.Pcg.{pcg32}
use Rattle.task_gen.proofs.WordLemmas.{answers-stream_of, written_more, written_all}
use Rattle.task_gen.proofs.words.words_of.Goals as goal

pub loop-word-init : goal.loop-word-init
loop-word-init c = record { whole = refl; rest = refl }

pub loop-word-preserved : goal.loop-word-preserved
loop-word-preserved c =
    let words = c.loop-word.word-items in
    let i = c.loop-word.word-index in
    record {
      whole = length-set words i c.next_u32.result ∙ c.loop-word.invariant.whole;
      rest = written_more words i c.next_u32.result _ _ _ c.loop-word-test.true c.loop-word.invariant.whole c.next_u32.ensures c.loop-word.invariant.rest;
    }

pub returns : goal.returns
returns c =
    written_all c.loop-word.word-items c.loop-word.word-index _ _ c.loop-word-test.false c.loop-word.invariant.whole c.loop-word.invariant.rest
    ∙ answers-stream_of pcg32 128 c.seed_from_u64-generator.result
    ∙ ap (λ g. first_words pcg32 128 g) c.seed_from_u64-generator.ensures
