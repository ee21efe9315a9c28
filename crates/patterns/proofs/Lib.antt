pub mod Filled
pub mod Reading
pub mod Answers
pub mod Comparison
pub mod NotEqual
pub mod InOrder
