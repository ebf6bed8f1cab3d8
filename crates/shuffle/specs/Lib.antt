pub mod Shuffled
pub mod Moved
