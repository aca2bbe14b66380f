pub mod At
pub mod Judged
