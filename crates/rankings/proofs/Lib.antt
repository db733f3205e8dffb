mod Cycles
mod Winning
mod Places
mod Ranked
pub mod Rows
mod Shifts
pub mod Steps
mod Goodness
mod Lent
mod Always
mod Bounding
mod Proposed
