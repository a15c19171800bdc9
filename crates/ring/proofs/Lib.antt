-- Laws that several proofs cite.
pub mod Product
pub mod Factors
pub mod Counting
pub mod Copying
