pub mod Reader
pub mod Read
pub mod Writer
pub mod Compared
