pub mod Packed
pub mod Host
