pub mod JoinLemmas
pub mod ModeLemmas
