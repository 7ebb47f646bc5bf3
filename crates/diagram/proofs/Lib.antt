pub mod Asked
pub mod Denoting
pub mod Capacity
pub mod Making
pub mod Changing
pub mod Walks
pub mod Marking
pub mod Example
