pub mod Lent
pub mod Readings
pub mod Rows
pub mod Fold
