pub mod Conclusions
pub mod Carried
pub mod Described
pub mod Seeks
pub mod Answers
pub mod Sought
