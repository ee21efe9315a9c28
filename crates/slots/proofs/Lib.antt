pub mod Results
pub mod Slots
pub mod Lines
pub mod Growing
pub mod Holding
