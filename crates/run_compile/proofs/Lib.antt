mod HomeLemmas
mod Level0Lemmas
mod HigherLemmas
mod CompilerLemmas
