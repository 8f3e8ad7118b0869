pub mod Tests
pub mod Faults
pub mod Lengths
pub mod Fields
pub mod Readers
pub mod Kinds
pub mod Payloads
pub mod Ranges
