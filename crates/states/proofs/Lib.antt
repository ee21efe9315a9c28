pub mod Fresh
pub mod States
