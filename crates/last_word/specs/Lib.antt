pub mod LastWord
pub mod Remarks
