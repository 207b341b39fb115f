pub mod Seen
pub mod Sums
pub mod Rows
pub mod Whole
