pub mod Content
pub mod Cuts
pub mod Requests
pub mod Said
pub mod Counted
