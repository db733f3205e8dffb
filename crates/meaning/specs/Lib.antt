pub mod Arrivals
pub mod Bound
pub mod Extreme
pub mod Free
pub mod Into
pub mod Environment
pub mod Signs
pub mod Term
