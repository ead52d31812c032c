pub mod PlanLemmas
pub mod FoundLemmas
pub mod LookLemmas
