pub mod Numbers
pub mod Answers
pub mod Clients
pub mod Feeds
pub mod Held
pub mod Blank
