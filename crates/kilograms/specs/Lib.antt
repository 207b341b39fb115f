pub mod Kilograms
pub mod Lines
pub mod Exact
