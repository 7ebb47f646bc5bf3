pub mod Work
pub mod Walk
