pub mod Bytes
pub mod OneAnswer
pub mod Signed
pub mod Slices
pub mod Tests
