pub mod Late
pub mod Lines
pub mod ClosingCount
pub mod HeldByRule
pub mod OneRecord
pub mod AllRecords
pub mod Calls
