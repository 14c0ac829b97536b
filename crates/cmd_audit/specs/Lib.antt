pub mod Transcript
pub mod Audit
