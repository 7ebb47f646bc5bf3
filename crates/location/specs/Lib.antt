pub mod Located
pub mod Served
pub mod Shown
