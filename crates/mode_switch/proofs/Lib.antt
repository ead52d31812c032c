pub mod MadeLemmas
pub mod CrewHeldLemmas
pub mod RunLemmas
