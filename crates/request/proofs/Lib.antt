pub mod Giving
pub mod Written
pub mod Reordering
pub mod Worked
pub mod Collecting
pub mod Celled
pub mod Piecewise
