pub mod ReadingLemmas
pub mod WordLemmas
mod HeadLemmas
mod NumberLemmas
