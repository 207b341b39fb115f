pub mod Lines
pub mod Hinted
pub mod OneAnswer
