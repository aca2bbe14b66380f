pub mod Lists
pub mod Numbers
pub mod Lines
pub mod Records
pub mod Written
pub mod Tallied
