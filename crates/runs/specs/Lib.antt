-- Definitions, in the order of document 01; `Steps` has what private steps ask and ensure, `Laws` what is proved of them.
pub mod Calls
pub mod Plans
pub mod Switches
pub mod Machines
pub mod Keyed
pub mod Demand3
pub mod Steps
pub mod Laws
