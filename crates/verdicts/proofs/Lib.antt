pub mod Beyond
pub mod Limits
mod Ranking
pub mod Roots
mod Leasts
mod LeastEvidence
mod LeastTexts
