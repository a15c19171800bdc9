-- What the private steps of this crate ask and ensure. A reader need not believe these.
pub mod Reading
pub mod Setting
pub mod Writing
pub mod Terms
