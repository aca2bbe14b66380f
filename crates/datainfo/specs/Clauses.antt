pub mod Members
pub mod Obeyed
