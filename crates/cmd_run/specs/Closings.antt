-- Transactions that the program ends, the lowest number first, and their lines of the report (this project's own).
use Rattle.std.specs.Prelude.{◌≡◌, ℕ, suc, ◌+◌, ◌<◌, ◌≤◌, List, [], ◌∷◌, ◌++◌, length}
use Rattle.std.specs.List.{flat_map}
use Rattle.pam_base.specs.declared.code.Code.{Code}
use Rattle.pam_base.specs.Code.{number_of}
use Rattle.report_step.specs.dispatch_core.specs.Lines.{names_of}
use Rattle.report_step.specs.pam_room.specs.Module.{Player, notes_of}
use Rattle.report_step.specs.pam_room.specs.State.{PlainWorld}
use Rattle.report_step.specs.pam_handle.specs.Handle.{PlainHandle}
use Rattle.report_step.specs.pam_handle.specs.End.{world_after_end}
use Rattle.report_step.specs.pam_library.specs.Slots.{PlainSlot, closed, opened}
use Rattle.report_step.specs.Closing.{closing_text}
use Rattle.cmd_run.specs.State.{RunState, state_of}

-- a transaction that was ended: its lines, and the state after it
pub record Closing : Type 0 where
  pub text : List ℕ
  pub state : RunState

module _ (players : List Player) (status : Code) where
  abbrev pub world_after : PlainHandle → PlainWorld → PlainWorld
  world_after h w = world_after_end (notes_of players) (number_of status) h w

  abbrev pub text_of_end : ℕ → PlainWorld → PlainWorld → List ℕ
  text_of_end number before after =
      closing_text (names_of players) number status after.process.ledger
      (length before.process.ledger.filed)

  -- Each open transaction, in the order of their slots, after some that are closed. An ended transaction leaves its
  -- conversation in its slot.
  unfoldable pub closings_after : List PlainSlot → List PlainSlot → PlainWorld → List Closing
  closings_after front [] w = []
  closings_after front (closed conv ∷ slots) w =
      closings_after (front ++ closed conv ∷ []) slots w
  closings_after front (opened h ∷ slots) w = record {
    text = text_of_end (length front + 1) w (world_after h w);
    state = state_of (front ++ closed h.room.conv ∷ slots) (world_after h w);
  } ∷ closings_after (front ++ closed h.room.conv ∷ []) slots (world_after h w)

  abbrev pub closings : RunState → List Closing
  closings s = closings_after [] s.slots s.world

-- how many transactions are open
unfoldable pub open_count : List PlainSlot → ℕ
open_count [] = 0
open_count (closed conv ∷ slots) = open_count slots
open_count (opened h ∷ slots) = suc (open_count slots)

abbrev pub closings_text : List Closing → List ℕ
closings_text cs = flat_map (λ (c : Closing). c.text) cs

abbrev pub last_state : RunState → List Closing → RunState
last_state s [] = s
last_state s (c ∷ cs) = last_state c.state cs

-- one transaction was ended, the one with the lowest number
pub record EndsNext (players : List Player) (status : Code) (number : ℕ) (s t : RunState) : Type
    0 where
  pub first : closings players status s
      ≡ record { text = text_of_end players status number s.world t.world; state = t }
      ∷ closings players status t
  pub fewer : open_count t.slots < open_count s.slots
  pub receipts : length s.world.process.ledger.filed ≤ length t.world.process.ledger.filed

-- the state after all of them
abbrev pub all_closed : List Player → Code → RunState → RunState
all_closed players status s = last_state s (closings players status s)
