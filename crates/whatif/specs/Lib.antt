pub mod Asked
pub mod Shown
pub mod Told
