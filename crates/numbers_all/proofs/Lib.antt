pub mod Counted
pub mod Ready
pub mod Putting
pub mod Answering
pub mod Pieces
