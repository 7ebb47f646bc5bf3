pub mod Words
pub mod Fields
pub mod Parts
pub mod Ways
pub mod Shown
pub mod Sheet
pub mod Written
