pub mod Salvage
pub mod Promised
pub mod HowFar
pub mod Lines
pub mod Remarks
pub mod Inner
