-- What the private steps of this crate ask and ensure. A reader need not believe these.
pub mod Tiles
pub mod Rows
pub mod Values
pub mod Shrinking
pub mod Building
pub mod Readings
pub mod Sums
