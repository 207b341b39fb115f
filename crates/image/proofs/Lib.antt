pub mod Stored
pub mod Images
pub mod Words
pub mod Calls
pub mod Ways
pub mod OneAnswer
pub mod Offsets
