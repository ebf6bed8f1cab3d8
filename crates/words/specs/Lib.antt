pub mod Tests
pub mod Words
pub mod Kinds
pub mod Bytes
pub mod Outcome
