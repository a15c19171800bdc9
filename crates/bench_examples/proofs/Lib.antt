pub mod Empty
pub mod Logs
pub mod Examples
