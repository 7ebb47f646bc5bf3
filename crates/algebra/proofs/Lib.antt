pub mod Copying
pub mod Derived
pub mod Groupings
