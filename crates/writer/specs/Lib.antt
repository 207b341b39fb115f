pub mod Line
pub mod Closed
pub mod Headings
pub mod Parts
pub mod Remarks
pub mod Text
pub mod Typist
pub mod Unusual
