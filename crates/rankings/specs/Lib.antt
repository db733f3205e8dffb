pub mod Ranking
pub mod Cells
pub mod Columns
pub mod Slopes
pub mod Stored
pub mod Laws
pub mod Spans
pub mod Least
