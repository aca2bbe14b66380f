pub mod Lists
pub mod Accepted
pub mod Walking
pub mod Seeking
pub mod Locating
pub mod Filling
