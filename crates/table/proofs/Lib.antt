pub mod Laws
pub mod Bounds
pub mod Views
pub mod Good
pub mod Cases
pub mod Examples
