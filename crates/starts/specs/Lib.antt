pub mod Sinks
pub mod Skips
