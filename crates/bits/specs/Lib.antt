pub mod Representation
pub mod Meanings
pub mod Trails
pub mod Soundness
