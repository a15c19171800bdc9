-- What the private steps of this crate ask and ensure. A reader need not believe these.
pub mod Numbers
pub mod Babies
pub mod Plans
pub mod Keys
pub mod Trees
pub mod Records
pub mod Widths
pub mod Stored
pub mod Tables
pub mod Rising
pub mod Strategies
