pub mod Acts
pub mod Exact
pub mod Claims
