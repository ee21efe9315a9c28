pub mod Blocks
pub mod Listed
pub mod Runs
