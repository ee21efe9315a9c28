pub mod Live
pub mod Memory
