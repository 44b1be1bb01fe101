pub mod Work
pub mod Once
pub mod ListLaws
pub mod Climbing
pub mod Marks
pub mod Listing
pub mod Sole
