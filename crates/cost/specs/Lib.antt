pub mod Cost
pub mod Recosted
