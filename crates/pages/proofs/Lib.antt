pub mod Runs
pub mod Deciding
pub mod Members
pub mod Counting
pub mod Branches
pub mod Operating
pub mod Projecting
pub mod Sizing
