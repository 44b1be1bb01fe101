pub mod Powers
pub mod Sole
