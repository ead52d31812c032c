pub mod SumLemmas
pub mod NameLemmas
pub mod TableSums
