pub use Rattle.control_words
pub use Rattle.script_lang
pub use Rattle.service_load
pub use Rattle.handler_chain
pub mod Origins
pub mod Rows
pub mod Text
