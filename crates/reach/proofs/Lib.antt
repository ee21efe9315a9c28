pub mod MaskInTurn
pub mod Masks
pub mod Ones
pub mod Readings
pub mod Growing
