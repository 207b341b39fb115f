pub mod Front
pub mod WholeRecords
pub mod State
pub mod Run
pub mod Call
pub mod Way
pub mod Inner
