pub mod Form
pub mod Known
