pub mod Round
pub mod Bounds
pub mod Places
pub mod Cases
pub mod Carbon
pub mod OneAnswer
