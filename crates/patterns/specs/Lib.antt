pub mod Patterns
pub mod Checked
pub mod Comparison
