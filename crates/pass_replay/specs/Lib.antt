pub use Rattle.dispatch_core
pub mod Replay
pub mod Told
pub mod Kept
pub mod Held
pub mod Walk
pub mod Passed
pub mod Retold
