pub mod Homes
pub mod Steps
