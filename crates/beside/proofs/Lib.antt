pub mod Upholding
