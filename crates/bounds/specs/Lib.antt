pub mod Ends
pub mod Unique
