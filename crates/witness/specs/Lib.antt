pub mod Witness
pub mod Walk
pub mod Taken
pub mod Drawing
