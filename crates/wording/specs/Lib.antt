pub mod Wording
pub mod Parts
