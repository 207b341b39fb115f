pub mod Rows
pub mod Answers
pub mod OneRecord
mod AsRecord
pub mod RoundTrip
pub mod AsReader
pub mod TooBig
pub mod OneAnswer
