pub mod ErrorLemmas
pub mod PlaceLemmas
pub mod StageLemmas
pub mod ServeLemmas
pub mod EndLemmas
pub mod TreeLemmas
