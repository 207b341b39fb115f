pub mod Ends
pub mod Columns
pub mod Adding
mod Words
pub mod TableRows
pub mod TableFarm
pub mod TableSums
pub mod OneAnswer
