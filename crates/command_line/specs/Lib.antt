pub mod CommandLine
pub mod Refusals
pub mod Example
pub mod Files
pub mod Named
pub mod Names
pub mod Refused
