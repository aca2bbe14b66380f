pub mod Demand
pub mod Lines
pub mod Chatter
pub mod Counts
