pub mod Fields
pub mod Unfit
pub mod One
pub mod Demand3
pub mod ShutOut
pub mod Exact
pub mod Waves
pub mod Searches
