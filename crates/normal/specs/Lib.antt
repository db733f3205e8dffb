pub mod NormalText
pub mod Part
pub mod Surveys
pub mod Writes
pub mod Refused
pub mod Laws
