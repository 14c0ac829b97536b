pub mod Loose
pub mod Cached
pub mod Token
pub mod Calls
pub mod Traced
pub mod Resumed
