pub mod KeptLemmas
mod OwnRoundLemmas
mod PartitionLemmas
mod MergingLemmas
