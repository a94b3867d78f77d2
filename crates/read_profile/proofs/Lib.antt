pub mod HighCounts
pub mod Marks
pub mod Judging
pub mod Answering
