pub mod Taken
pub mod ItemSequenceFacts
pub mod ItemTurnFacts
pub mod TurnSequenceFacts
pub mod Wholly
mod Rows
pub mod SeenLineFacts
pub mod Running_lines
pub mod RefusedLineFacts
pub mod CutLineFacts
