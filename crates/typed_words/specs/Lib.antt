pub mod Amounts
pub mod Numbers
pub mod Words
