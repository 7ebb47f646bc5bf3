pub mod Diagram
pub mod Sound
pub mod Marks
pub mod Denoted
pub mod Reduced
pub mod Changed
pub mod Growing
pub mod Worked
