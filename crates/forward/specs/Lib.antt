pub mod Closing
pub mod Lines
pub mod Passes
