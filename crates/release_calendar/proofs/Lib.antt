pub mod FirstLemmas
pub mod NextLemmas
pub mod TurnLemmas
pub mod OrderLemmas
pub mod BegunLemmas
pub mod ListedTurns
pub mod EndLemmas
pub mod TaskTurns
