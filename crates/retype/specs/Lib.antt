pub mod Typed
pub mod Book
