pub mod Written
pub mod Line
pub mod Items
pub mod Check
pub mod File
