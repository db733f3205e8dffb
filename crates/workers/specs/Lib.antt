pub mod Floor
pub mod Jobs
pub mod Team
pub mod Turns
