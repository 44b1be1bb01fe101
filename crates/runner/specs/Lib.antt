pub mod Export
pub mod Columns
