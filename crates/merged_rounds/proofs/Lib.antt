mod LookLemmas
mod ScheduleLemmas
mod SumLemmas
pub mod LapLemmas
mod ApartLemmas
mod ChangeLemmas
mod MarkLemmas
mod WordLemmas
pub mod CountLemmas
pub mod ReplayLemmas
pub mod ReplaySteps
mod TurnLemmas
mod EntryLemmas
mod BegunLemmas
mod CopyLemmas
mod KeptLemmas
mod LastLemmas
