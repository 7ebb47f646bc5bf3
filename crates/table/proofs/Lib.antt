pub mod Storing
pub mod Branching
pub mod Reducing
pub mod Exactness
