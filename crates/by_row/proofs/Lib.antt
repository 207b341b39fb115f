pub mod Columns
pub mod FieldByField
pub mod OneAnswer
