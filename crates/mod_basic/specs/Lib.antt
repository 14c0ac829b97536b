pub mod AtOnce
pub mod Permit
pub mod Deny
pub mod Debug
pub mod Rootok
pub mod Request
pub mod Probe
