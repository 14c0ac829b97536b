mod Rows
pub mod Lowest
pub mod ItemEffectFacts
pub mod LineEffectFacts
pub mod ItemRequestFacts
pub mod EndReportFacts
pub mod ClosingLineFacts
pub mod CallSequenceFacts
pub mod RunPartFacts
pub mod RunEndFacts
pub mod Wholly
pub mod Filed
pub mod ScriptRunFacts
pub mod IsolatedRunFacts
pub mod ScriptLineFacts
pub mod TwoRunsEndFacts
pub mod Beside
pub mod RunEventFacts
pub mod ServedItemFacts
pub mod StoppedRunFacts
pub mod StreamBytesFacts
pub mod CallReportFacts
mod RefusedLineFacts
mod Filewise
