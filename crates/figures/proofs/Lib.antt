pub mod Differences
pub mod Stored
pub mod Tallying
pub mod Reading
pub mod Keeping
pub mod Telling
