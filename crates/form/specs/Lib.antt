pub mod Form
pub mod Items
pub mod Lines
pub mod Packed
pub mod Promises
