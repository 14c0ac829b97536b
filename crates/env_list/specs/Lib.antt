pub mod Environment
pub mod Entries
