pub mod Around
pub mod Fills
pub mod Searches
pub mod Places
pub mod Loops
pub mod Among
pub mod Named
pub mod Accepted
