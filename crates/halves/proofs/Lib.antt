pub mod Steps
pub mod Walks
pub mod Halves
pub mod Accepted
pub mod Examples
