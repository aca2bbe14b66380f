pub mod Concluded
pub mod Asked
pub mod Names
pub mod Answered
