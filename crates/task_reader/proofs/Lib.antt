pub mod Parts
pub mod WrittenLemmas
pub mod MembersLemmas
pub mod LimitsLemmas
mod RefusalLemmas
pub mod Accepts
pub mod Refuses
mod PiecesLemmas
mod JoinedPieces
