pub mod View
pub mod Figured
pub mod Inner
