pub mod Begun
pub mod Opens
pub mod Reading
pub mod Refused
pub mod Shows
pub mod Taken
pub mod Ties
pub mod Unread
