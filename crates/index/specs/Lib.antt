pub mod Index
pub mod Upto
pub mod Promises
