-- A whole run of a script: its lines, and how the open transactions are ended after them (this project's own).
use Rattle.std.specs.Prelude.{◌≡◌, ◌⊎◌, ℕ, ◌+◌, ◌≤◌, List, [], ◌∷◌, ◌++◌, length, take, true, Option, Some, None, Result, Ok, Err}
use Rattle.pam_base.specs.Lines.{lines_of}
use Rattle.pam_outside.specs.Streams.{SourceState, SinkState}
use Rattle.report_step.specs.pam_room.specs.Module.{Player, notes_of}
use Rattle.record_reader.specs.LineTurns.{Ending, StopsBy, LastRead, Reports}
use Rattle.record_reader.specs.declared.ending.Ending.TheVariants.{Done, ReadFault, Refused}
use Rattle.record_reader.specs.declared.ending.Stop.{Stop}
use Rattle.record_reader.specs.declared.ending.Stop.TheVariants.{NoMemory}
use Rattle.report_step.specs.report_lines.specs.Line.{script_text}
use Rattle.report_step.specs.Script.{read_fault_text}
pub use Rattle.cmd_run.specs.Endings.{ending_status, stop_status}
use Rattle.cmd_run.specs.State.{Setting, RunState}
use Rattle.cmd_run.specs.Step.{line_step, Fails}
use Rattle.cmd_run.specs.Events.{AddsEvents, EventsAfterLines, EventsUntilCut, run_events}
use Rattle.cmd_run.specs.Closings.{Closing, closings, closings_text, all_closed}
use Rattle.cmd_run.specs.Reading.{refused_in}
use Rattle.cmd_run.specs.Reported.{CutBy}
use Rattle.cmd_run.specs.Run.{text_of}

-- ---- the last line

-- what is written after their lines, if n lines were applied
abbrev pub script_last : Ending → ℕ → Option (List ℕ)
script_last Done n = None
script_last ReadFault n = Some read_fault_text
script_last (Refused kind) n = Some (script_text (n + 1) kind)

abbrev pub last_line : Ending → ℕ → List ℕ
last_line ending n = text_of (script_last ending n)

module _ (players : List Player) where
  -- ---- a run that ends

  -- the lines of the transactions, and the last line
  abbrev pub last_words : Ending → ℕ → RunState → List ℕ
  last_words ending n s = closings_text (closings players (ending_status ending) s)
      ++ last_line ending n

  -- A run that stops after its lines: in the last line, with all transactions ended; or in the lines of one, after
  -- which the others are ended and not reported.
  abbrev pub StopsIn : Stop → Ending → ℕ → RunState → RunState → List Closing → List ℕ → Type 0
  StopsIn stop ending n s t [] part = CutBy stop part (last_line ending n)
      × (t ≡ all_closed players (ending_status ending) s)
  StopsIn stop ending n s t (c ∷ cs) part = CutBy stop part c.text
      × (t ≡ all_closed players (stop_status stop) c.state)

  -- the lines of the transactions before that are whole
  pub record StopsClosing (stop : Stop) (ending : Ending) (n : ℕ) (s t : RunState)
      (text : List ℕ) : Type 0 where
    pub whole : List Closing
    pub others : List Closing
    pub among : closings players (ending_status ending) s ≡ whole ++ others
    pub part : List ℕ
    pub written : text ≡ closings_text whole ++ part
    pub stopped : StopsIn stop ending n s t others part

-- ---- the whole run

module _ (setting : Setting) where
  -- It ends: the lines, the implicit ends and the last line are reported, and all transactions are
  -- ended. Whatever events cleanup log and data modelled, they model these and then those of the
  -- lines and implicit ends.
  pub record EndsAs (ending : Ending) (start end : RunState) (input taken left text : List ℕ) : Type
      0 where
    pub lines : ℕ
    pub last : RunState
    pub body : List ℕ
    pub comes : Reports (line_step setting) (Fails setting) (Ok ending) lines start last input taken
        left body
    pub whole : text ≡ body ++ last_words setting.players ending lines last
    pub closed : end ≡ all_closed setting.players (ending_status ending) last
    pub stands : AddsEvents (notes_of setting.players)
        (run_events setting (ending_status ending) start input lines last) start end

  -- It stops among its lines, and all transactions are ended; nothing is written after that. The
  -- lines that were completely served are the first lines of the script.
  pub record StopsAmongLines (stop : Stop) (start end : RunState)
      (input taken left text : List ℕ) : Type 0 where
    pub lines : ℕ
    pub last : RunState
    pub stops : StopsBy (line_step setting) (Fails setting) stop 0 lines start last taken left text
    pub first : stops.served ≡ take lines (lines_of input)
    pub closed : end ≡ all_closed setting.players (stop_status stop) last
    pub stands : EventsUntilCut setting (stop_status stop) lines start end input text

  -- the run stops after its lines
  pub record StopsAfterLines (stop : Stop) (start end : RunState)
      (input taken left text : List ℕ) : Type 0 where
    pub ending : Ending
    pub lines : ℕ
    pub last : RunState
    pub body : List ℕ
    pub comes : Reports (line_step setting) (Fails setting) (Ok ending) lines start last input taken
        left body
    pub words : List ℕ
    pub written : text ≡ body ++ words
    pub stops : StopsClosing setting.players stop ending lines last end words
    pub stands : EventsAfterLines setting (ending_status ending) (stop_status stop) lines start end
        input

  abbrev pub EndsOrStops : Result Ending Stop → RunState → RunState → List ℕ → List ℕ → List ℕ
      → List ℕ → Type 0
  EndsOrStops (Ok ending) start end input taken left text =
      EndsAs ending start end input taken left text
  EndsOrStops (Err stop) start end input taken left text =
      StopsAmongLines stop start end input taken left text
      ⊎ StopsAfterLines stop start end input taken left text

  -- what was taken and written, and how often it was read and written
  pub record RunsScript (result : Result Ending Stop) (start end : RunState) (x y : SourceState)
      (p q : SinkState) : Type 0 where
    pub taken : List ℕ
    pub text : List ℕ
    pub source : x.left ≡ taken ++ y.left
    pub sink : q.written ≡ p.written ++ text
    pub outcome : EndsOrStops result start end x.left taken y.left text
    pub last : LastRead (line_step setting) 0 start [] taken
    pub reads : y.calls ≤ x.calls + length taken + 1
    pub ends : y.reads_at_end ≤ x.reads_at_end + 1
    pub writes : q.calls ≤ p.calls + length text + 1

-- If no line of the script is refused and neither source nor sink failed, it was run to its end, or out of memory.
abbrev pub Completes : Result Ending Stop → List ℕ → Type 0 → Type 0 → Type 0
Completes result input read_failed write_failed =
    refused_in input true ≡ None → (read_failed → ⊥) → (write_failed → ⊥)
    → (result ≡ Ok Done) ⊎ (result ≡ Err NoMemory)
