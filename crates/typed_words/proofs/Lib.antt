pub mod Amounts
mod Blanks
mod Examples
mod Names
mod Quotient
mod Same
pub mod TypedExact
pub mod OneAnswer
mod Values
