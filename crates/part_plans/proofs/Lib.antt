mod Duals
pub mod FirstPacks
pub mod NodeLemmas
mod NodeLikes
mod PartLemmas
