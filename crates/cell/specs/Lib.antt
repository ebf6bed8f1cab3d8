pub mod Cell
pub mod Step
pub mod Items
pub mod Decide
pub mod Opened
