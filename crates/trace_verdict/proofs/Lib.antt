pub mod Parts
pub mod DueLemmas
pub mod EntryLemmas
pub mod HitLemmas
pub mod IndexLemmas
pub mod OverlapLemmas
pub mod PartLemmas
pub mod StartLemmas
pub mod SupplyLemmas
pub mod TickLemmas
pub mod ValidLemmas
pub mod VerdictLemmas
mod AllEntries
pub mod StandingLemmas
mod ShortLemmas
mod SuppliedLemmas
mod StackLemmas
mod DealtLemmas
mod ApartLemmas
mod ListedLemmas
pub mod TallyLemmas
mod ToldLemmas
mod TimedLemmas
mod NearLemmas
mod CrossLemmas
mod ShortWalkLemmas
pub mod FoundLemmas
mod FilledLemmas
mod StepLemmas
