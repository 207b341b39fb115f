pub mod TypedLines
mod LineExamples
pub mod OneLine
pub mod Calls
mod Commas
pub mod ClosedMeansAll
pub mod Fates
pub mod HeadingTyped
pub mod InParts
pub mod OneAnswer
mod Unusuals
pub mod Remembered
