-- Definitions, in the order of document 01; `Laws` has what is proved of them.
pub mod Slots
pub mod Lists
pub mod Vectors
pub mod Residues
pub mod Rotations
pub mod Refusals
pub mod Answers
pub mod Searches
pub mod Marks
pub mod Divisors
pub mod Periods
pub mod Calls
pub mod Steps
pub mod Laws
