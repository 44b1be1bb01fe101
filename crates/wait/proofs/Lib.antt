pub mod Waits
pub mod Sole
