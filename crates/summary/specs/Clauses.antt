pub mod Lines
pub mod Tells
pub mod Figured
