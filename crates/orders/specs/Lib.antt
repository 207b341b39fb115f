pub mod InOrder
pub mod AnyOrder
pub mod Examples
