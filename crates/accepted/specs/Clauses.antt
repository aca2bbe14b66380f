pub mod Fitting
pub mod Held
