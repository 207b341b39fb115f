mod Steps
pub mod Texts
pub mod Overs
pub mod Gathers
pub mod Pages
pub mod Promises
pub mod OneAnswer
