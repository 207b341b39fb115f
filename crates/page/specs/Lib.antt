pub mod Over
pub mod Text
pub mod Bars
pub mod Figures
pub mod Style
pub mod Parts
pub mod Page
pub mod Promised
