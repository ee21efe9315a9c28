pub mod Pieces
pub mod Sets
pub mod Whens
pub mod Named
pub mod Conditions
pub mod Bytes
pub mod Lengths
pub mod Written
