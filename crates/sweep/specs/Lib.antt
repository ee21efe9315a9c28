pub mod Starts
pub mod Floors
