pub mod Bytes
pub mod Kept
pub mod Pieces
pub mod SameLines
mod Steps
pub mod OneAnswer
