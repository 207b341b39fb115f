mod Asking
mod Examples
mod Showing
mod Tellings
pub mod OneAnswer
