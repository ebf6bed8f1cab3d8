pub mod Exclusion
pub mod Finding
pub mod Formula
pub mod Within
pub mod Cases
pub mod Examples
