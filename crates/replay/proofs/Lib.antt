pub mod After
pub mod Views
pub mod Past
pub mod Links
pub mod Walks
pub mod Registers
pub mod Writes
pub mod Sole
