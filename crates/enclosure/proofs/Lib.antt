pub mod Enclosed
pub mod WithinTwo
