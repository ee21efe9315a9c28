pub mod Slots
pub mod Results
