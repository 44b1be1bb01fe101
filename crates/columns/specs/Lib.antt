pub mod Column
pub mod Tree
pub mod Work
pub mod Listing
