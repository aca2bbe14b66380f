pub mod Demo
pub mod Told
pub mod Histories
pub mod Theorems
