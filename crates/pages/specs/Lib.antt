pub mod Pages
pub mod Parts
pub mod Operators
pub mod Projection
pub mod Sizes
pub mod Worked
