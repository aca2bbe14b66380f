pub mod Lefts
pub mod Walks
pub mod Finds
pub mod Searches
