pub mod Codes
pub mod Lines
pub mod Opening
pub mod Printed
