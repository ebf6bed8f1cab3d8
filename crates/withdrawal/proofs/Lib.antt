pub mod Withdrawing
pub mod Counting
pub mod Unfit
pub mod Changing
pub mod Cases
pub mod Examples
