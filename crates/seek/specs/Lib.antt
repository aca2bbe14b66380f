pub mod Fill
pub mod Clauses
