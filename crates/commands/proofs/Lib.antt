mod Lines
mod Answered
mod Replayed
mod Solving
mod Ranked
mod Listed
