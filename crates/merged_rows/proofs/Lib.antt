pub mod MergeLemmas
pub mod PushLemmas
pub mod FirstLemmas
mod ColumnLemmas
mod FormLemmas
mod SumLemmas
pub mod MergedTables
pub mod ChangedLemmas
