pub mod Layout
pub mod Readable
pub mod Rules
