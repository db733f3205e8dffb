pub mod Canon
pub mod Spelling
pub mod Fault
pub mod Scan
pub mod Passes
pub mod Plain
pub mod Left
pub mod Laws
