pub mod Locating
pub mod Serving
