pub mod Program
pub mod Cut
