mod Threes
mod Tests
pub mod Exact
pub mod OneAnswer
