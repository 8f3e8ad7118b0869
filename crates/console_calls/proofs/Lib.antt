pub mod Spacing
pub mod Fronts
pub mod Sessions
pub mod Printing
