pub mod Few
pub mod Places
