pub mod LetIn
