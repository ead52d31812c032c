pub mod RoundLemmas
pub mod FrontLemmas
pub mod RowLemmas
pub mod LogLemmas
pub mod AgainLemmas
