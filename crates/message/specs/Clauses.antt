pub mod Parsed
pub mod Said
