pub mod Cases
pub mod Errors
pub mod Hexadecimal
pub mod Runs
