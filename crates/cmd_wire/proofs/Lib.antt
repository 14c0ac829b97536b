pub mod FrameEffectFacts
pub mod FrontEndRunFacts
pub mod FrameRequestFacts
pub mod TakenBytesFacts
pub mod Wholly
