pub mod Tokens
pub mod More
pub mod Levels
pub mod Structure
pub mod Deepest
pub mod Shallow
pub mod Data
pub mod Records
