pub mod Calls
pub mod Lines
pub mod Making
pub mod Sessions
