mod Steps
pub mod Examples
pub mod OneAnswer
