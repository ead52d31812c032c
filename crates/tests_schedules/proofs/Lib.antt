pub mod LongTableLemmas
pub mod MadeTreeLemmas
pub mod LiftedLemmas
