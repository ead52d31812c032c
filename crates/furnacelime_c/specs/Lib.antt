pub mod Answers
pub mod Books
pub mod Numbers
pub mod Rounds
