pub mod Table
pub mod Accepted
