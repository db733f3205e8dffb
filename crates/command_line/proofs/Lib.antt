mod Asked
mod Refusals
