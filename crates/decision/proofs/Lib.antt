pub mod Arriving
pub mod Coded
pub mod Compared
pub mod Counted
pub mod Paired
