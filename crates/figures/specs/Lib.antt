pub mod Figures
pub mod Theorems
pub mod Clauses
