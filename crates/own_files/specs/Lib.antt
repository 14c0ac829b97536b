pub mod Lines
pub mod Entries
pub mod Paths
pub mod Own
