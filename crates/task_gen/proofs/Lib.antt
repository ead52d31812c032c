pub mod DrillLemmas
pub mod NameLemmas
pub mod WordLemmas
