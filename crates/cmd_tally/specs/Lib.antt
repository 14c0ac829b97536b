pub use Rattle.mod_tally
pub mod Tally
