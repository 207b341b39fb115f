pub mod Rows
pub mod Laid
pub mod AnyLine
pub mod OneAnswer
pub mod Sample
