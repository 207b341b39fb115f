pub mod PartialSums
pub mod WithinTwo
