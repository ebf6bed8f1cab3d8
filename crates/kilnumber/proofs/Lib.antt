pub mod Parting
pub mod Simulator
pub mod Masks
pub mod Counts
pub mod Examples
pub mod Narrowing
