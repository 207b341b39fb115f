pub mod Right
pub mod Alike
