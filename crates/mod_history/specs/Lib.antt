pub mod Wheel
pub mod Securetty
pub mod History
pub mod Renewal
pub mod Pwhistory
pub mod Standing
