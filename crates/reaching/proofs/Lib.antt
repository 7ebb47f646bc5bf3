pub mod Linked
pub mod Sweeping
