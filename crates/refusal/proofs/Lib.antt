pub mod Order
pub mod Codes
pub mod Opens
pub mod Sole
