pub mod Lines
pub mod Answers
pub mod Unpacked
pub mod Told
