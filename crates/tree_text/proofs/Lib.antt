pub mod SearchLemmas
pub mod PieceLemmas
