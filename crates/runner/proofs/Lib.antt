pub mod Columns
pub mod Sole
