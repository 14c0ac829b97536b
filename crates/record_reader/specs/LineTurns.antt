-- Line after line: what was taken from the source and written to the sink, whatever a line does.
use Rattle.std.specs.Prelude.{ℕ, ◌⊎◌, ◌≡◌, ◌<◌, ◌≤◌, List, Result}
use Rattle.pam_base.specs.declared.fault.ScriptKind.{ScriptKind}
use Rattle.pam_outside.specs.Streams.{SourceState, SinkState}
use Rattle.record_reader.specs.declared.ending.Ending as endings
use Rattle.record_reader.specs.declared.ending.Stop.{Stop}
use Rattle.record_reader.specs.Run.{ItemFails}
use Rattle.record_reader.specs.Turns as items
use Rattle.record_reader.specs.Whole as whole
use Rattle.record_reader.specs.Looked.{held_limit, looked}
use Rattle.record_reader.specs.LineRun.{LineStep, step_at}

-- how the lines of a script ended
abbrev pub Ending : Type 0
Ending = endings.Ending ScriptKind

module _ {State : Type 0} (step : LineStep State) where
  -- the last read
  abbrev pub LastRead : ℕ → State → List ℕ → List ℕ → Type 0
  LastRead = items.LastRead looked (step_at step)

module _ {State : Type 0} (step : LineStep State) (Fails : ItemFails State) where
  -- the run has stopped
  abbrev pub StopsBy : Stop → ℕ → ℕ → State → State → List ℕ → List ℕ → List ℕ → Type 0
  StopsBy = items.StopsBy looked (step_at step) Fails

  -- what is known of a run over the whole input
  abbrev pub Reports : Result Ending Stop → ℕ → State → State → List ℕ → List ℕ → List ℕ → List ℕ
      → Type 0
  Reports = whole.Reports looked (step_at step) Fails

  -- a run from the first byte on
  abbrev pub Runs : Result Ending Stop → ℕ → State → State → SourceState → SourceState → SinkState
      → SinkState → Type 0
  Runs = whole.Runs looked (step_at step) Fails

-- the limit for a line; it is 0 if no more lines are allowed
abbrev pub IsLimit : ℕ → ℕ → Type 0
IsLimit limit lines = ((limit ≡ held_limit) × (lines < 65536)) ⊎ ((limit ≡ 0) × (65536 ≤ lines))
