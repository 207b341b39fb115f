pub mod Sorts
pub mod Sums
pub mod First
pub mod Ranges
pub mod Told
pub mod Refusals
pub mod Compares
pub mod Written
pub mod FarmSet
mod Started
mod UsedUp
pub mod Under
mod Ended
pub mod Clauses
pub mod AsNumbers
pub mod Details
pub mod EachFigure
pub mod Keeps
pub mod Counts
pub mod OneAnswer
