-- What is proved of the definitions.
pub mod Numbers
pub mod Telling
pub mod Files
pub mod Calls
