pub mod FitLemmas
pub mod FirstFitLaw
pub mod ItemLemmas
pub mod ServerLemmas
pub mod PackLemmas
