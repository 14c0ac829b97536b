pub mod EmptyHallFacts
