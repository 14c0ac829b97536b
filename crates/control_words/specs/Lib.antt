pub use Rattle.conf_lex
pub mod Bracket
pub mod Control
pub mod Entries
pub mod Keyword
pub mod Module
pub mod Stack
pub mod Table
