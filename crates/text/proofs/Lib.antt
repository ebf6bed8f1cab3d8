pub mod Spelling
pub mod Putting
pub mod Lining
pub mod Examples
