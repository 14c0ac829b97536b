pub mod NoWay
pub mod Leaving
pub mod Kept_out
