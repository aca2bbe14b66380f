pub mod Head
pub mod Within
pub mod Poke
pub mod Pattern
