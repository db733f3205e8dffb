pub mod Table
pub mod Parsers
