pub mod Whole
pub mod Unfits
