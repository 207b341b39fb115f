pub mod ByKind
pub mod ByVersion
mod Places
pub mod OneAnswer
