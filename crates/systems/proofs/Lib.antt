pub mod Ordered
pub mod Names
pub mod Rows
