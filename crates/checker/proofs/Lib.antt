pub mod Accepting
pub mod Exactly
pub mod Checking
pub mod Cases
pub mod Examples
