pub mod Made
pub mod Built
pub mod Reduced
pub mod Exact
