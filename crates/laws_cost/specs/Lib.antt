pub mod Digests
pub mod Costs
