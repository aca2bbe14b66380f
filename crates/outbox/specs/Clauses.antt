pub mod Written
pub mod Tallied
