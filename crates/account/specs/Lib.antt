pub mod Sorts
pub mod Figures
pub mod Account
pub mod Line
pub mod Range
pub mod Judge
pub mod Compared
pub mod Told
