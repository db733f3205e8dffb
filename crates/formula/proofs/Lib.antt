pub mod Cuts
pub mod Lexed
pub mod Tokenless
pub mod Pieces
pub mod OneText
pub mod OneCut
pub mod OneFront
pub mod Unreserved
pub mod Ascending
pub mod Canonical
pub mod CanonicalText
pub mod Spellable
pub mod Faults
pub mod Scopes
pub mod Sense
pub mod Refusals
pub mod Beginnings
pub mod Signs
pub mod Placing
pub mod OneOrOther
mod Firsts
mod Noting
mod Scanning
