pub mod Roots
pub mod Swept
