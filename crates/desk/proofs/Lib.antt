pub mod Sizes
pub mod Images
pub mod Number
pub mod OneAnswer
