pub mod CheckedConfigFacts
