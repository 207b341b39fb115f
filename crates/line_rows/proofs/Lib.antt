pub mod Texts
pub mod Examples
pub mod OneAnswer
