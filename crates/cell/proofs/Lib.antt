pub mod Cells
pub mod Sides
pub mod Walks
pub mod Loops
pub mod Deciding
