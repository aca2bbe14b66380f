pub mod Base64
pub mod Encoding
pub mod Theorems
pub mod Clauses
