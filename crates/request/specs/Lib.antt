pub mod Request
pub mod Reading
pub mod Example
pub mod Writing
