pub mod WalkRowFacts
pub mod ChauthtokTextFacts
