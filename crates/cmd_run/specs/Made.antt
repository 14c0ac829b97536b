-- What a run reports, with real objects too: each report is that of a call that the library made (this project's own).
use Rattle.std.specs.Prelude.{◌≡◌, ◌⊎◌, ℕ, List, [], ◌∷◌, ◌++◌, Option, Result, Ok, Err}
use Rattle.std.specs.List.{flat_map}
use Rattle.data_cleanup.specs.Ledger.{PlainLedger}
use Rattle.pam_base.specs.declared.call.Step.{Step}
use Rattle.pam_outside.specs.Streams.{SinkState}
use Rattle.report_step.specs.Step.{step_text}
use Rattle.report_step.specs.dispatch_core.specs.Lines.{names_of}
use Rattle.report_step.specs.pam_library.specs.AnyWorld.{AnswersBy, refusal}
use Rattle.report_step.specs.pam_library.specs.Outcome.{PlainOutcome}
use Rattle.report_step.specs.pam_library.specs.Slots.{PlainSlot, slot_at}
use Rattle.report_step.specs.pam_library.specs.Traced.{TracesAt}
use Rattle.report_step.specs.pam_room.specs.Module.{Player}
use Rattle.record_reader.specs.declared.ending.Ending.{Ending}
use Rattle.record_reader.specs.declared.ending.Stop.{Stop}
use Rattle.cmd_run.specs.Reported.{CutBy}
use Rattle.cmd_run.specs.Run.{EndsWith}
use Rattle.cmd_run.specs.State.{RunState}

-- a call, with its outcome, the cleanup log after it, and the slots before and after it
pub record Made : Type 0 where
  pub step : Step
  pub outcome : PlainOutcome
  pub ledger : PlainLedger
  pub slots : List PlainSlot
  pub next : List PlainSlot

-- The library can make it: its result is one that the call can have; the code of a stack call, and what is held after
-- it, are those to which the lines lead that its outcome lists; and no other transaction changes.
pub record IsMade (m : Made) : Type 0 where
  pub answers : AnswersBy (refusal (slot_at m.slots m.step.number) m.step.call) m.step.call
      m.outcome.answer
  pub traces : TracesAt m.step.call (slot_at m.slots m.step.number) (slot_at m.next m.step.number)
      m.outcome
  pub others : (number : ℕ) → (number ≡ m.step.number → ⊥)
      → slot_at m.next number ≡ slot_at m.slots number

-- calls that were made, one after another, from some slots to others
abbrev pub AreMade : List PlainSlot → List Made → List PlainSlot → Type 0
AreMade slots [] next = next ≡ slots
AreMade slots (m ∷ made) next = (m.slots ≡ slots) × IsMade m × AreMade m.next made next

module _ (wrapped : List ℕ → List ℕ) (names : List (List ℕ)) where
  abbrev pub report_of : Made → List ℕ
  report_of m = wrapped (step_text names m.step m.outcome m.ledger)

  abbrev pub reports_of : List Made → List ℕ
  reports_of made = flat_map report_of made

  -- a call was made whose report isn't whole
  pub record IsCut (stop : Stop) (slots next : List PlainSlot) (part : List ℕ) : Type 0 where
    pub call : Made
    pub first : call.slots ≡ slots
    pub last : call.next ≡ next
    pub made : IsMade call
    pub cut : CutBy stop part (report_of call)

  -- after the calls whose reports are whole
  abbrev pub GoesTo : {T : Type 0} → Result T Stop → List PlainSlot → List PlainSlot → List ℕ → Type
      0
  GoesTo (Ok t) slots next part = (next ≡ slots) × (part ≡ [])
  GoesTo (Err stop) slots next part = (part ≡ []) ⊎ IsCut stop slots next part

  -- what was written is the reports of calls that were made, and of the last one perhaps a part
  pub record ReportsCalls {T : Type 0} (result : Result T Stop) (slots next : List PlainSlot)
      (p q : SinkState) : Type 0 where
    pub made : List Made
    pub middle : List PlainSlot
    pub are_made : AreMade slots made middle
    pub part : List ℕ
    pub written : q.written ≡ p.written ++ (reports_of made ++ part)
    pub to : GoesTo result middle next part

-- ---- a whole run

-- how a run ended whose items were served
abbrev pub ended_by : {Kind : Type 0} → Ending Kind → Result (Unit {0}) Stop
    → Result (Ending Kind) Stop
ended_by ending (Ok done) = Ok ending
ended_by ending (Err stop) = Err stop

module _ {Kind : Type 0} (wrapped : List ℕ → List ℕ) (last_text : Ending Kind → ℕ → Option (List ℕ))
    (players : List Player) where
  -- after the reports of its calls, those of the transactions that are still open, and the last text
  pub record GoesToEnd (ending : Ending Kind) (result : Result (Ending Kind) Stop)
      (slots : List PlainSlot) (p q : SinkState) : Type 0 where
    pub items : ℕ
    pub ended : Result (Unit {0}) Stop
    pub last : RunState
    pub end : RunState
    pub slots_are : last.slots ≡ slots
    pub result_is : result ≡ ended_by ending ended
    pub ends : EndsWith wrapped last_text players ending items ended last end p q

  abbrev pub GoesOn : Result (Ending Kind) Stop → Result (Ending Kind) Stop → List PlainSlot
      → SinkState → SinkState → Type 0
  GoesOn (Err stop) result slots p q = (result ≡ Err stop) × (q ≡ p)
  GoesOn (Ok ending) result slots p q = GoesToEnd ending result slots p q

  pub record ReportsRun (result : Result (Ending Kind) Stop) (slots : List PlainSlot)
      (p q : SinkState) : Type 0 where
    pub served : Result (Ending Kind) Stop
    pub middle : List PlainSlot
    pub between : SinkState
    pub calls : ReportsCalls wrapped (names_of players) served slots middle p between
    pub goes_on : GoesOn served result middle between q
