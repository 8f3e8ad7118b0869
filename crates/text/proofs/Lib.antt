pub mod Pairings
pub mod Memberships
pub mod Rows
