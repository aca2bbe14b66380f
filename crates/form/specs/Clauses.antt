pub mod Formed
pub mod Merged
