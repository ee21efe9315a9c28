pub mod Records
pub mod Blocks
pub mod Runs
pub mod Refusals
