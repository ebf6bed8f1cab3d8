pub mod Nodes
pub mod Paths
pub mod Headers
pub mod Cases
