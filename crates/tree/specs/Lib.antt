pub mod Tree
pub mod Written
pub mod Reach
pub mod Generate
pub mod Held
