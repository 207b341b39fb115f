pub mod Signs
pub mod Small
pub mod OneAnswer
pub mod Cases
