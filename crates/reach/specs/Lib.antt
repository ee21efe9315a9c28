pub mod Readings
pub mod Growing
