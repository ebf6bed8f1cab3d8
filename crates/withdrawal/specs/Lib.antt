pub mod Withdrawn
pub mod Counted
