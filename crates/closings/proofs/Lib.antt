pub mod GapMarks
pub mod Windows
