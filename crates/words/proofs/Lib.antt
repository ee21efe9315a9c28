pub mod Rows
pub mod Numerals
pub mod Sides
pub mod Constants
