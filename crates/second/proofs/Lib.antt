pub mod Items
pub mod Lines
pub mod Runs
pub mod Calls
pub mod Second
pub mod Accepted
pub mod Moves
pub mod Counts
