use Rattle.std.proofs.Common.{◌≡◌, ◌-◌, ◌++◌, length, take}
use Rattle.rand_core.specs.Steps.{stream_of, steps_u32}
use Rattle.rand_pcg.specs.Pcg.{pcg32}
use Rattle.task_gen.proofs.WordLemmas.{answers}
use Rattle.task_gen.proofs.words.words_of.Given as goal

abbrev pub invariant-loop-word : goal.invariant-loop-word
invariant-loop-word l = record {
  whole : length l.word-items ≡ 128;
  rest : take l.word-index l.word-items ++ answers (128 - l.word-index) (stream_of (steps_u32 pcg32) l.generator) ≡ answers 128 (stream_of (steps_u32 pcg32)
      l.initial.generator);
}
