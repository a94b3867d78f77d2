pub mod Loop
pub mod Answering
pub mod Keeping
pub mod Laws
