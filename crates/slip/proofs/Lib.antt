pub mod Worked
pub mod Positive
pub mod Nearest
mod Wrong
pub mod NotNumbers
pub mod OneAnswer
