pub mod Feeds
pub mod Lines
pub mod Joins
pub mod Tells
pub mod Takes
