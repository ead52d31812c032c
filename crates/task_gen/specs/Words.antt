-- Words of the generator.
use Rattle.std.specs.Prelude.{ℕ, List}
use Rattle.rand_core.specs.Steps.{first_words}
use Rattle.rand_core.specs.Pcg32Seed.{pcg32_seed}
use Rattle.rand_pcg.specs.Pcg.{pcg32, pcg32_of_seed}

-- the first 128 words of PCG32 from the seed of 16 bytes that the number gives
abbrev pub words_of_number : ℕ → List ℕ
words_of_number number = first_words pcg32 128 (pcg32_of_seed (pcg32_seed 16 number))
