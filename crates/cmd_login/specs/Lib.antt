pub use Rattle.record_reader
pub use Rattle.cmd_run
pub mod Calls
pub mod Login
pub mod Told
pub mod Ends
pub mod Reported
