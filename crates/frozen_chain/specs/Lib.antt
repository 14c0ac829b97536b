pub mod Kept
pub mod Paused
