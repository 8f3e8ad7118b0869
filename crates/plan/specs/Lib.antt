pub mod Views
pub mod Plans
pub mod Drafts
pub mod Meanings
pub mod Trials
