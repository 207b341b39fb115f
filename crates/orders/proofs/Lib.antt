pub mod Runs
pub mod Orders
pub mod Subtotals
pub mod AnyOrder
pub mod Premises
