pub mod Texts
pub mod Steps
pub mod Examples
pub mod OneAnswer
