-- Laws that several proofs cite.
pub mod Chunks
pub mod Deciding
pub mod Reversing
pub mod Zipping
pub mod Folding
pub mod Shrinkage
pub mod Turnings
pub mod Leading
pub mod Moving
pub mod Gathering
pub mod Building
