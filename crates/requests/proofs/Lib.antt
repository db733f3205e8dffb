mod Fronts
pub mod Readings
mod Words
pub mod Orders
pub mod Caused
mod Lines
