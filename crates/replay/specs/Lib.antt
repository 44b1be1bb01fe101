pub mod Access
pub mod View
pub mod Chain
pub mod Write
