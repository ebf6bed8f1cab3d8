pub mod Word
pub mod Whole
pub mod Decimals
pub mod Calls
pub mod Answers
pub mod Judged
pub mod Exact
pub mod Plain
