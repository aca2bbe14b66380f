pub mod Index
pub mod Search
pub mod Among
pub mod Theorems
pub mod Accessibles
pub mod Accepted
