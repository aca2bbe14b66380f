pub mod Reported
pub mod Numbered
