mod Parts
pub mod StepLemmas
pub mod GivenLemmas
