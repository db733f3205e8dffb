pub mod Token
pub mod Syntax
pub mod Written
pub mod Read
pub mod Misread
