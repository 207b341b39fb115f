pub mod Numbers
pub mod Rows
pub mod Sheets
pub mod Refusals
pub mod Remarks
pub mod Faults
pub mod Code
