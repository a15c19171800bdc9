-- Laws that several proofs cite.
pub mod Walks
pub mod Entering
pub mod Summing
pub mod Answering
