pub mod Places
pub mod Counting
pub mod Taken
pub mod Bounds
