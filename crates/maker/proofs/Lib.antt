pub mod Below
pub mod Cases
pub mod Writing
pub mod Makers
pub mod Marking
pub mod Generating
