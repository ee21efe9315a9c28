pub mod Conditions
pub mod FiresBy
pub mod Slots
pub mod Joins
pub mod Seated
pub mod Classes
pub mod Settling
