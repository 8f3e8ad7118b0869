pub mod Keepers
pub mod Spans
pub mod Memories
