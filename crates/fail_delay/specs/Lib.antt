pub mod Delay
pub mod DelayFn
pub mod Wait
