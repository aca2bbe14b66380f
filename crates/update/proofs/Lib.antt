pub mod Sendings
pub mod Showings
