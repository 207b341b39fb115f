pub mod NextRecords
pub mod Walks
pub mod OneAnswer
