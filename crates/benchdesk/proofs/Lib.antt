pub mod Calls
pub mod AsWay
pub mod OneAnswer
