pub mod Numbers
pub mod Put
pub mod Clients
pub mod Outcomes
pub mod Busy
pub mod Notes
pub mod Counts
pub mod Editions
