pub mod Users
pub mod Calls
pub mod Logins
