pub mod Text
pub mod Puts
pub mod Number
pub mod Signed
