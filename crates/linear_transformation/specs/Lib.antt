-- Definitions, in the order of document 01; `Steps` has what private steps ask and ensure, `Laws` what is proved of them.
pub mod Strategies
pub mod Plans
pub mod Closures
pub mod Digits
pub mod Trees
pub mod Schedules
pub mod Listed
pub mod Widths
pub mod Calls
pub mod Stored
pub mod Steps
pub mod Laws
