pub mod Sinks
pub mod Same
pub mod Skips
pub mod Cuts
pub mod Starts
pub mod Ends
