pub mod Address
pub mod Items
pub mod Listing
pub mod Parts
