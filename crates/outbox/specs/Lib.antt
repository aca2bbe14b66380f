pub mod Outbox
pub mod Theorems
pub mod Sent
pub mod Clauses
