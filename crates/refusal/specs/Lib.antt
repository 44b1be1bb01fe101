pub mod Refusal
pub mod Reason
pub mod Exact
pub mod Create
pub mod Open
pub mod Order
