pub mod Account
pub mod Shells
pub mod Nologin
pub mod Securetty
pub mod Wheel
pub mod Listfile
