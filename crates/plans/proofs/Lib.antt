pub mod States
pub mod Plans
pub mod Own
