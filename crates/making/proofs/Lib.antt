pub mod Keeping
pub mod Seeing
pub mod Pairing
pub mod Spanning
pub mod Negating
pub mod Carried
pub mod Starting
pub mod Masking
