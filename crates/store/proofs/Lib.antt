pub mod Members
pub mod Meanings
pub mod Domains
pub mod Counts
pub mod Sweeps
pub mod Accepted
pub mod Finds
