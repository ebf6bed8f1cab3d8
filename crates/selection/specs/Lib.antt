pub mod Selection
pub mod Lookup
pub mod Places
