pub mod Listed
pub mod Promise
pub mod Run
pub mod Shown
pub mod Clauses
