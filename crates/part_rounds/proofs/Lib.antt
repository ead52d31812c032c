mod PlacedLemmas
mod MergingLemmas
pub mod KeptParts
mod SourceLemmas
mod CoverLemmas
mod PartedLemmas
