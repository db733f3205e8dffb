pub mod Admissible
pub mod NodeMeaning
pub mod Laws
