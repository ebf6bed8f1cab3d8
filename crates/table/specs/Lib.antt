pub mod Table
pub mod Check
pub mod Lawful
pub mod Ready
pub mod Answer
pub mod Worked
