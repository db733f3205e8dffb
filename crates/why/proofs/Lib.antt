mod Heads
mod Lines
mod Walking
mod Ways
