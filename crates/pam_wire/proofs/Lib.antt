mod Rows
pub mod Rests
pub mod FrameBytesFacts
pub mod IncompleteFrameFacts
pub mod Lawful
pub mod FedBytesFacts
pub mod BytePrefixFacts
pub mod ValidStepFacts
mod StepAllocationFacts
