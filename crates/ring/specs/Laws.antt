-- What is proved of the definitions: for any modulus, any length and any shift.
pub mod Slots
pub mod Lists
pub mod Vectors
pub mod Places
pub mod Residues
pub mod Rotations
pub mod Refusals
pub mod Answers
pub mod Searches
pub mod Below
pub mod Members
pub mod Indexes
pub mod Divisors
pub mod Periods
