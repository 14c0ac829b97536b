pub mod Returns
pub mod Codes
pub mod Succeeds
