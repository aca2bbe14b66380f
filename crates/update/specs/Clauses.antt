pub mod Scope
pub mod Updatable
