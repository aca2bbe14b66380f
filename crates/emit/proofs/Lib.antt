pub mod Pieces
pub mod Says
pub mod Listed
