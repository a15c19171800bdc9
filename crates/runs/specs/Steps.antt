-- What the private steps ask and ensure.
pub mod Plain
pub mod Keyed
pub mod Nodes
pub mod Leaves
pub mod Giants
pub mod Surveys
pub mod Runs
pub mod Ready
