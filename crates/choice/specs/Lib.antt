pub mod Rule
pub mod Status
pub mod Judged
