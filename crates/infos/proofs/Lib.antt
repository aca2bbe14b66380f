pub mod Infos
pub mod Lists
pub mod Nested
pub mod Own
