pub mod Output
pub mod Codes
