mod Columns
mod Plain
pub mod RowKinds
mod OtherKinds
mod GroupWalk
pub mod GroupTexts
mod Carbon
mod SourceWalk
mod SourceBars
mod Scales
pub mod AddsUp
pub mod InScale
pub mod Buffers
