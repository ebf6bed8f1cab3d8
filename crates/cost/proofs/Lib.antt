pub mod Cases
pub mod Answering
pub mod Free
pub mod Twins
pub mod Costs
pub mod Examples
