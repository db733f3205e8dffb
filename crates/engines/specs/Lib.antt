pub mod Everywhere
pub mod Play
pub mod Prepared
pub mod Reasons
pub mod StrictReasons
