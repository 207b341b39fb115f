pub mod Why
pub mod Promised
pub mod Inner
pub mod Remarks
