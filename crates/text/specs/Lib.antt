pub mod Digits
pub mod Buffer
pub mod Lines
