pub mod Everywhere
pub mod Telling
pub mod Walk
pub mod Story
