pub use Rattle.explain_lines
pub use Rattle.pass_replay
pub mod Rows
pub mod Walk
pub mod Calls
