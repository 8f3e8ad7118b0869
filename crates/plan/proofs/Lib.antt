pub mod Verdicts
pub mod Behind
pub mod Holding
pub mod Readings
pub mod Meaning
pub mod Soundness
