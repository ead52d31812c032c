pub mod WordLemmas
mod ValueLemmas
mod DrawLineLemmas
mod CommandLineLemmas
mod SpellingLemmas
mod DrawLemmas
mod ParserLemmas
