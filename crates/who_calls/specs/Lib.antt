pub mod Status
pub mod Request
