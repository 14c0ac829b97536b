pub use Rattle.frame_stream
pub use Rattle.pam_wire
pub mod Step
pub mod Answered
pub mod Endings
pub mod Ends
pub mod Reading
pub mod Whole
