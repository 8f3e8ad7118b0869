pub mod Arrays
pub mod Meanings
pub mod Spans
pub mod Soundness
