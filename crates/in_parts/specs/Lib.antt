pub mod Sheet
pub mod Cut
pub mod Retype
pub mod Records
