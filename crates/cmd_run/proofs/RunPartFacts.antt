-- Parts of a run, one after another.
use Rattle.std.proofs.Common.{◌≡◌, ℕ, List, Result, Ok, Err, refl, sym, ap, subst, ◌∙◌}
use Rattle.std.specs.Prelude.{OnOk}
use Rattle.pam_base.specs.declared.call.Step.{Step}
use Rattle.pam_base.specs.declared.code.Code.{Code}
use Rattle.data_cleanup.specs.Cleanup.{Notes}
use Rattle.data_cleanup.specs.Due.{Event}
use Rattle.data_cleanup.specs.Ledger.{PlainLedger}
use Rattle.data_cleanup.specs.Moves.{Moves}
use Rattle.report_step.specs.pam_room.specs.Module.{notes_of}
use Rattle.report_step.specs.pam_library.specs.Applied.{Keeps, ended_by}
use Rattle.report_step.specs.pam_library.specs.Seen.{slot_of}
use Rattle.report_step.specs.pam_library.specs.Slots.{PlainSlot, lists_of}
use Rattle.script_lang.specs.declared.line.Line.{Line}
use Rattle.script_lang.specs.declared.line.Line.TheVariants as lines
use Rattle.record_reader.specs.declared.ending.Stop.{Stop}
use Rattle.cmd_run.specs.Asked.{IsEndLine}
use Rattle.cmd_run.specs.Ends.{EndsAre, IsEndStep}
use Rattle.cmd_run.specs.Events.{LineMoves}
use Rattle.cmd_run.specs.Seen.{AllTell, IsSoundIn, SessionSeen, Went}
use Rattle.cmd_run.proofs.CallSequenceFacts.{call_ends, goes_on, nothing_done, one_call, proceeds_so}

module _ (Is : ℕ → ℕ → Type 0) where
  pub went_nowhere : (s : SessionSeen) → IsSoundIn s → Went Is s s
  went_nowhere s sound = record {
    players = refl;
    tells = refl;
    world_tells = refl;
    gives = λ number gives. gives;
    gives_no_other = λ number gives. gives;
    proceeds = nothing_done _ _ _ _ _ _ refl refl;
    sound = sound;
  }

  pub went_on : (a b c : SessionSeen) → Went Is a b → Went Is b c → Went Is a c
  went_on a b c x y = record {
    players = y.players ∙ x.players;
    tells = y.tells ∙ x.tells;
    world_tells = y.world_tells ∙ x.world_tells;
    gives = λ number gives. y.gives number (x.gives number gives);
    gives_no_other = λ number gives. x.gives_no_other number (y.gives_no_other number gives);
    proceeds = goes_on _ _ _ _ _ _ _ _ x.proceeds (rw x.players at y.proceeds);
    sound = y.sound;
  }

-- ends among these are among those
pub went_so : (Is Are : ℕ → ℕ → Type 0) (so : (number status : ℕ) → Is number status → Are number status) (a b : SessionSeen) → Went Is a b → Went Are a b
went_so Is Are so a b w = record {
  players = w.players;
  tells = w.tells;
  world_tells = w.world_tells;
  gives = w.gives;
  gives_no_other = w.gives_no_other;
  proceeds = proceeds_so Is Are so _ _ _ _ _ w.proceeds;
  sound = w.sound;
}

-- what was modelled still is
pub still_told : (Is : ℕ → ℕ → Type 0) (a b : SessionSeen) → Went Is a b → AllTell a → AllTell b
still_told Is a b w told = rw (w.tells, w.world_tells) told

-- no call was made
pub went_quietly : (Is : ℕ → ℕ → Type 0) (a b : SessionSeen) → b.players ≡ a.players → b.tells ≡ a.tells → b.world_tells ≡ a.world_tells
    → ((number : Code → ℕ → ℕ) → a.gives number → b.gives number)
    → ((number : Code → ℕ → ℕ) → b.gives number → a.gives number)
    → b.slots ≡ a.slots → b.world.process.ledger ≡ a.world.process.ledger → IsSoundIn a → Went Is a b
went_quietly Is a b players tells world_tells gives no_other slots ledger sound = record {
  players = players;
  tells = tells;
  world_tells = world_tells;
  gives = gives;
  gives_no_other = no_other;
  proceeds = nothing_done _ _ _ _ _ _ ledger (ap lists_of slots);
  sound = rw (players, slots, ledger) sound;
}

-- one call was made
pub went_once : (Is : ℕ → ℕ → Type 0) (a b : SessionSeen) → b.players ≡ a.players → b.tells ≡ a.tells → b.world_tells ≡ a.world_tells
    → ((number : Code → ℕ → ℕ) → a.gives number → b.gives number)
    → ((number : Code → ℕ → ℕ) → b.gives number → a.gives number)
    → (ended : List Event) → Moves (notes_of a.players) 17 ended a.world.process.ledger (lists_of a.slots) b.world.process.ledger (lists_of b.slots)
    → EndsAre Is ended → IsSoundIn b
    → Went Is a b
went_once Is a b players tells world_tells gives no_other ended moves are sound = record {
  players = players;
  tells = tells;
  world_tells = world_tells;
  gives = gives;
  gives_no_other = no_other;
  proceeds = one_call _ _ _ _ _ _ _ moves are;
  sound = sound;
}

-- what holds in any case holds if all went well
pub on_ok : {T A : Type 0} (result : Result T Stop) → A → OnOk result A
on_ok (Ok t) a = a
on_ok (Err stop) a = tt

-- what a line moves
pub line_moves : (note : Notes) (slots next : List PlainSlot) (line this : Line) (before after : PlainLedger) → line ≡ this → LineMoves note slots this before after next
    → LineMoves note slots line before after next
line_moves note slots next line this before after same moves =
    subst (λ (l : Line). LineMoves note slots l before after next) (sym same) moves

-- the call was made that a line asks for
pub went_as_asked : (line : Line) (step : Step) → line ≡ lines.Step step → (a b : SessionSeen) → b.players ≡ a.players
    → ((number : Code → ℕ → ℕ) → a.gives number → b.gives number)
    → ((number : Code → ℕ → ℕ) → b.gives number → a.gives number)
    → Keeps (ended_by step a) a b → Went (IsEndLine line) a b
went_as_asked line step e a b players gives no_other k =
    went_so (IsEndStep step) (IsEndLine line) (λ number status is. e ∙ ap (λ (s : Step). lines.Step s) is) a b
    (went_once (IsEndStep step) a b players k.tells k.world_tells gives no_other (ended_by step a) k.moves
    (call_ends (slot_of step a) step.number step.call) k.sound)
