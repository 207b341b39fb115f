mod Chosen
mod Examples
mod FirstBytes
pub mod HintAnswers
mod Lines
mod Shown
mod UsualRanges
pub mod Ranges
pub mod Tables
pub mod TypedBack
pub mod OneAnswer
