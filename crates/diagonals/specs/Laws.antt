-- What is proved of the definitions.
pub mod Pairs
pub mod Maps
pub mod Entries
pub mod Checking
pub mod Words
pub mod Calls
pub mod Refusing
pub mod Products
pub mod Setting
pub mod Reading
pub mod Changes
pub mod Matrices
pub mod SlotMaps
pub mod Terms
pub mod Shrinking
pub mod Writing
pub mod Transposing
