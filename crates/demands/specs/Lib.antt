pub mod Calls
pub mod History
pub mod Locking
pub mod Run
pub mod Demands
pub mod Cases
