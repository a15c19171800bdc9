-- Laws that several proofs cite.
pub mod FilePairs
pub mod Filing
pub mod StoredMaps
pub mod Judging
