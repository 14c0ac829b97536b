pub mod Parts
pub mod Entries
pub mod Passwd
pub mod Group
pub mod Shells
pub mod Shadow
pub mod Replace
pub mod Members
