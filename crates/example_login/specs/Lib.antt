pub mod Guest
pub mod LetIn
