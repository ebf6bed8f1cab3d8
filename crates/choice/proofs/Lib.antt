pub mod Judging
pub mod Within
pub mod Statuses
pub mod Leading
pub mod Placed
