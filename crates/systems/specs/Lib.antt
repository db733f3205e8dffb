pub mod Label
pub mod Path
pub mod System
pub mod Numbered
pub mod View
