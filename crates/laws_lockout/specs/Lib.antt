pub mod Within
pub mod Calls
pub mod Lockout
pub mod Refused
