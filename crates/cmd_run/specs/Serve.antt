-- What an item of a stream does, from what it asks for, whatever the items are (this project's
-- own).
use Rattle.std.specs.Prelude.{◌≡◌, ◌⊎◌, ◌+◌, ◌≤◌, ℕ, List, [], ◌++◌, length, Option, None, Result, Ok, Err, OnOk}
use Rattle.pam_outside.specs.Streams.{SinkState}
use Rattle.pam_base.specs.declared.call.Step.{Step}
use Rattle.script_lang.specs.declared.line.Line.{Line}
use Rattle.script_lang.specs.declared.line.Line.TheVariants as lines
use Rattle.record_reader.specs.declared.ending.Stop.{Stop}
use Rattle.record_reader.specs.declared.ending.Stop.TheVariants.{NoMemory, WriteFault}
use Rattle.record_reader.specs.Run.{ItemFails, ItemStep}
use Rattle.cmd_run.specs.Asked.{Asking}
use Rattle.cmd_run.specs.Reading.{read_as}
use Rattle.cmd_run.specs.State.{Setting, RunState, kept_at}
use Rattle.cmd_run.specs.Step.{CallFails, applied}

-- what is written for a line: nothing except for a call, whose report is wrapped
abbrev pub written_for : (List ℕ → List ℕ) → Line → List ℕ → List ℕ
written_for wrapped (lines.Step step) report = wrapped report
written_for wrapped line report = []

-- a line is applied, or refused
abbrev pub served_line : {Kind : Type 0} → (List ℕ → List ℕ) → Setting → RunState
    → Result Line Kind → Result (RunState × List ℕ) Kind
served_line wrapped setting s (Ok line) =
    Ok ((applied setting s line).0, written_for wrapped line (applied setting s line).1)
served_line wrapped setting s (Err kind) = Err kind

-- ---- a line

-- the states that a line may leave if its call runs out of memory
abbrev pub LineFails : Setting → Line → RunState → RunState → Type 0
LineFails setting line s t = (call : Step) × (line ≡ lines.Step call) × CallFails setting call s t

module _ (wrapped : List ℕ → List ℕ) (setting : Setting) (line : Line) where
  -- The run stops in it: a write failed, or an allocation, for its report or in its call.
  abbrev pub StopsInLine : Stop → RunState → RunState → List ℕ → Type 0
  StopsInLine WriteFault s t part = (t ≡ (applied setting s line).0) × (more : List ℕ)
      × (written_for wrapped line (applied setting s line).1 ≡ part ++ more)
  StopsInLine NoMemory s t part = (part ≡ [])
      × ((t ≡ (applied setting s line).0) ⊎ LineFails setting line s t)

  -- it is applied and what it has to say is written, or the run stops in it
  abbrev pub LineApplied : Result (Unit {0}) Stop → RunState → RunState → List ℕ → Type 0
  LineApplied (Ok done) s t text = (t ≡ (applied setting s line).0)
      × (text ≡ written_for wrapped line (applied setting s line).1)
  LineApplied (Err stop) s t text = StopsInLine stop s t text

  -- what a modelled sink holds after it
  pub record AppliesLine (result : Result (Unit {0}) Stop) (s t : RunState)
      (p q : SinkState) : Type 0 where
    pub text : List ℕ
    pub written : q.written ≡ p.written ++ text
    pub by : LineApplied result s t text
    pub calls : q.calls ≤ p.calls + length text + 1
    pub calls_ok : OnOk result (q.calls ≤ p.calls + length text)

-- how an item was served that was applied
abbrev pub item_result : {Kind : Type 0} → Result (Unit {0}) Stop → Result (Option Kind) Stop
item_result (Ok done) = Ok None
item_result (Err stop) = Err stop

-- ---- an item

-- Given what an item asks for and how its report is wrapped: its effect, the states that it may
-- leave if it runs out of memory, and whether it is refused. The clock is set before an item that isn't.
pub record Does {Kind : Type 0} (asked : Asking Kind) (wrapped : List ℕ → List ℕ)
    (step : Setting → ItemStep RunState Kind) (fails : Setting → ItemFails RunState)
    (read_step : ItemStep (Unit {0}) Kind) : Type 0 where
  pub steps : (setting : Setting) (n : ℕ) (s : RunState) (item : List ℕ)
      → step setting n s item ≡ served_line wrapped setting (kept_at setting n s) (asked n item)
  pub fails_so : (setting : Setting) (n : ℕ) (s t : RunState) (item : List ℕ) (call : Step)
      → asked n item ≡ Ok (lines.Step call) → CallFails setting call (kept_at setting n s) t
      → fails setting n s item t
  pub reads : (n : ℕ) (item : List ℕ) → read_step n tt item ≡ read_as (asked n item)
