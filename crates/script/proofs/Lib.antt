pub mod Within
pub mod Head
pub mod Changed
pub mod Pattern
