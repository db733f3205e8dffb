pub mod Setting
pub mod Walking
pub mod Keeping
pub mod Means
pub mod Drawn
pub mod OneWay
pub mod Reaching
