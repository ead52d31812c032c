pub mod BoxValues
pub mod StepsValues
pub mod AnswerValues
pub mod BookValues
