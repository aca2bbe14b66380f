pub mod Bare
pub mod Counted
