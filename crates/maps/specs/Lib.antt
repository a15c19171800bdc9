-- Definitions, in the order of document 01; `Steps` has what private steps ask and ensure, `Laws` what is proved of them.
pub mod Entries
pub mod Readings
pub mod Sums
pub mod Values
pub mod Offsets
pub mod Calls
pub mod Shifts
pub mod Steps
pub mod Laws
