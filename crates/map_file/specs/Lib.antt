-- Definitions; `Steps` has what private steps ask and ensure, `Laws` what is proved of them.
pub mod Files
pub mod Calls
pub mod Steps
pub mod Laws
