pub mod Holdings
pub mod Checks
pub mod States
pub mod Lists
pub mod Loads
