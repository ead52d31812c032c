pub mod FollowLemmas
pub mod FollowedLemmas
pub mod OneAnswerLemmas
pub mod AnswerLemmas
pub mod LineLemmas
pub mod TraceLemmas
pub mod CountedLemmas
pub mod EndLemmas
pub mod StreamLemmas
pub mod SetLemmas
pub mod CheckLemmas
pub mod SoundLemmas
pub mod NumberedLemmas
pub mod BatchLemmas
pub mod WrittenLemmas
mod RepeatLemmas
mod InputLemmas
