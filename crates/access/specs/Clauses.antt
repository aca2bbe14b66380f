pub mod Argument
pub mod Busy
pub mod Set
pub mod Judged
pub mod Told
pub mod Whole
