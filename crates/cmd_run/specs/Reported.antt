-- Transactions that are ended and reported, and where that stops (this project's own).
use Rattle.std.specs.Prelude.{◌≡◌, ℕ, ◌+◌, ◌≤◌, ◌<◌, Bool, true, false, List, [], ◌∷◌, ◌++◌, length, map, Option, IfSome, IfNone, Result, Ok, Err, OnOk, IsTrue}
use Rattle.pam_base.specs.declared.code.Code.{Code}
use Rattle.pam_outside.specs.Counts.{RisesIf}
use Rattle.pam_outside.specs.Streams.{SinkState}
use Rattle.report_step.specs.pam_room.specs.Module.{Player}
use Rattle.record_reader.specs.declared.ending.Stop.{Stop}
use Rattle.record_reader.specs.declared.ending.Stop.TheVariants.{NoMemory, WriteFault}
use Rattle.record_reader.specs.Object.{Object}
use Rattle.record_reader.specs.Turns.{has_write_fault}
use Rattle.cmd_run.specs.State.{RunState}
use Rattle.cmd_run.specs.Closings.{Closing, EndsNext, all_closed, closings, closings_text, last_state, open_count}
use Rattle.cmd_run.specs.Ends.{IsStatusOf}
use Rattle.cmd_run.specs.Seen.{NoneIsOpenIn, SessionSeen, Went, state}

-- a text is cut if a write failed, and isn't begun if an allocation for it failed
abbrev pub CutBy : Stop → List ℕ → List ℕ → Type 0
CutBy WriteFault part text = (more : List ℕ) × (text ≡ part ++ more)
CutBy NoMemory part text = part ≡ []

-- a transaction that was ended, with its lines in the form in which they are written
abbrev pub wrapped_closing : (List ℕ → List ℕ) → Closing → Closing
wrapped_closing wrapped c = record { text = wrapped c.text; state = c.state }

abbrev pub wrapped_closings : (List ℕ → List ℕ) → List Player → Code → RunState → List Closing
wrapped_closings wrapped players status s = map (wrapped_closing wrapped)
    (closings players status s)

module _ (wrapped : List ℕ → List ℕ) (players : List Player) (status : Code) where
  -- ---- one of them

  -- the lowest one was ended: its lines, and how much of them is written
  pub record ClosesOne (s t : RunState) (part : List ℕ) (old new : SinkState) : Type 0 where
    pub text : List ℕ
    pub first : wrapped_closings wrapped players status s ≡ record { text = text; state = t }
        ∷ wrapped_closings wrapped players status t
    pub written : new.written ≡ old.written ++ part
    pub calls : new.calls ≤ old.calls + length part + 1

  -- whether one was open
  abbrev pub ClosesNext : Result Bool Stop → RunState → RunState → SinkState → SinkState → Type 0
  ClosesNext (Ok false) s t old new = (wrapped_closings wrapped players status s ≡ []) × (t ≡ s) × (new ≡ old)
  ClosesNext (Ok true) s t old new = (part : List ℕ) × (c : ClosesOne s t part old new)
      × (c.text ≡ part) × (new.calls ≤ old.calls + length part)
  ClosesNext (Err stop) s t old new = (part : List ℕ) × (c : ClosesOne s t part old new)
      × CutBy stop part c.text

  -- ---- all of them; or those up to one that was ended and whose lines aren't all written

  abbrev pub ClosesTo : Result (Unit {0}) Stop → RunState → RunState → List Closing → List Closing
      → List ℕ → Type 0
  ClosesTo (Ok done) s t whole others part = (others ≡ []) × (part ≡ []) × (t ≡ last_state s whole)
  ClosesTo (Err stop) s t whole [] part = ⊥
  ClosesTo (Err stop) s t whole (c ∷ cs) part = CutBy stop part c.text × (t ≡ c.state)

  -- what a modelled output shows of it
  pub record Closes (result : Result (Unit {0}) Stop) (s t : RunState) (old new : SinkState) : Type
      0 where
    pub whole : List Closing
    pub others : List Closing
    pub among : wrapped_closings wrapped players status s ≡ whole ++ others
    pub part : List ℕ
    pub written : new.written ≡ old.written ++ (closings_text whole ++ part)
    pub to : ClosesTo result s t whole others part
    pub calls : new.calls ≤ old.calls + length (closings_text whole ++ part) + 1
    pub calls_ok : OnOk result (new.calls ≤ old.calls + length (closings_text whole ++ part))

-- ---- what contracts see of it, with real objects too

-- the open transaction with the lowest number is ended, if one is open
pub record EndsLowest (status : Code) (result : Option ℕ) (old new : SessionSeen) : Type 0 where
  pub some : IfSome result
      (λ number. EndsNext old.players status number (state old) (state new))
  pub none : IfNone result (NoneIsOpenIn old)
  pub filed : length old.world.process.ledger.filed ≤ length new.world.process.ledger.filed
  pub stays : IfNone result (state new ≡ state old)
  pub went : Went (IsStatusOf status) old new

-- all are ended, and nothing is written
pub record EndsSilently (status : Code) (old new : SessionSeen) : Type 0 where
  pub closed : state new ≡ all_closed old.players status (state old)
  pub none_open : NoneIsOpenIn new
  pub went : Went (IsStatusOf status) old new

module _ (wrapped : List ℕ → List ℕ) (status : Code) where
  -- the one with the lowest number is ended and reported; whether one was open
  pub record EndsOne (result : Result Bool Stop) (old new : SessionSeen)
      (output : Object SinkState) : Type 0 where
    pub told : IsTrue output.tells → ClosesNext wrapped old.players status result (state old)
        (state new) output.old output.new
    pub fewer : result ≡ Ok true → open_count new.slots < open_count old.slots
    pub none_open : result ≡ Ok false → NoneIsOpenIn new
    pub went : Went (IsStatusOf status) old new
    pub faults : RisesIf (has_write_fault result) output.faults_before output.faults_after
    pub sink_tells : output.tells_after ≡ output.tells

  -- all are ended and reported
  pub record EndsOpen (result : Result (Unit {0}) Stop) (old new : SessionSeen)
      (output : Object SinkState) : Type 0 where
    pub told : IsTrue output.tells → Closes wrapped old.players status result (state old)
        (state new) output.old output.new
    pub none_open : OnOk result (NoneIsOpenIn new)
    pub went : Went (IsStatusOf status) old new
    pub faults : RisesIf (has_write_fault result) output.faults_before output.faults_after
    pub sink_tells : output.tells_after ≡ output.tells
