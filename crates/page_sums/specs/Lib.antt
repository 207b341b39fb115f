pub mod Tables
pub mod AddsUp
pub mod InScale
pub mod Headings
pub mod Buffers
