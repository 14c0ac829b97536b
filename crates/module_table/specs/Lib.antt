pub use Rattle.stack_ways
pub mod Judging
pub mod Codes
pub mod Entries
pub mod Tables
