pub mod Narrowing
pub mod Holding
pub mod Saving
pub mod Asking
pub mod Beginning
pub mod Loading
