pub mod Bytes
pub mod Choice
pub mod Signed
pub mod Answers
