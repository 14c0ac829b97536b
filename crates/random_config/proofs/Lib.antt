pub mod GenerationFacts
mod Rows
