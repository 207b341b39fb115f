pub mod Hints
pub mod Names
pub mod Usual
