mod SpanLemmas
mod RowLemmas
mod ShareLemmas
mod SliceLemmas
mod ValidRows
mod StepLemmas
mod StretchLemmas
mod CountLemmas
mod PatternLemmas
mod TableLemmas
mod RowNames
mod MergedLemmas
pub mod Again
