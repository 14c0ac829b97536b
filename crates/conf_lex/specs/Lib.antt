pub mod Piece
pub mod Rules
pub mod Reading
pub mod Lexing
pub mod Moving
pub mod Answer
