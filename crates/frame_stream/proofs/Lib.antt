pub mod CutFrameFacts
pub mod FirstFrameFacts
pub mod SpelledStepFacts
