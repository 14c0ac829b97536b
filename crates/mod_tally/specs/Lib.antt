pub mod Source
pub mod Tally
pub mod Settings
pub mod Faillock
pub mod Recorded
