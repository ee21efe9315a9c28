pub mod Words
pub mod Progress
pub mod DraftBytes
pub mod ReadAnswers
pub mod WriteAnswers
