mod Steps
pub mod Small
