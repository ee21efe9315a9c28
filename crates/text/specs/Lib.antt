pub mod LineEnds
pub mod Texts
pub mod Fitting
pub mod Given
