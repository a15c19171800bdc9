-- Definitions, in the order of document 01; `Steps` has what private steps ask and ensure, `Laws` what is proved of them.
pub mod Maps
pub mod Products
pub mod Setting
pub mod SlotMaps
pub mod Shrinking
pub mod Transposing
pub mod Calls
pub mod Building
pub mod Steps
pub mod Laws
