pub mod DelayFunctionFacts
pub mod FrontSlotFacts
