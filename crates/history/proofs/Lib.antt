pub mod Steps
pub mod Lists
pub mod Runs
pub mod Printed
pub mod Sent
pub mod Chatter
pub mod Counts
