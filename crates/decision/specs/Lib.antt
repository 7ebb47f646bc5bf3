pub mod Decided
pub mod Differing
pub mod Example
pub mod Serving
pub mod Shown
