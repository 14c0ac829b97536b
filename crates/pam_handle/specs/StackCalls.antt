-- The six calls that run a stack: pam_authenticate(3), pam_setcred(3), pam_acct_mgmt(3), pam_open_session(3),
-- pam_close_session(3), pam_chauthtok(3). What stands here is what a call does before its passes and after them, in the
-- order of `Handle::call`; the passes themselves are `goes` of dispatch_core: over which stack, by which cached codes
-- (the Module Writers' Guide). That a call may be incomplete and is resumed is this project's own.
use Rattle.std.specs.Prelude.{ℕ, Bool, true, false, ◌||◌, ◌==◌, if◌then◌else◌, is_some, bit_or, List}
use Rattle.pam_base.specs.declared.code.Code.{Code}
use Rattle.pam_base.specs.declared.code.Code.TheVariants as codes
use Rattle.pam_base.specs.declared.call.Func.{Func}
use Rattle.pam_base.specs.declared.call.Func.TheVariants.{Authenticate, SetCred, ChAuthTok}
use Rattle.dispatch_core.specs.pam_room.specs.Call.{has_flag, prelim_check}
use Rattle.dispatch_core.specs.pam_room.specs.Module.{Player}
use Rattle.dispatch_core.specs.pam_room.specs.State.{PlainRoom, PlainWorld, State, state_of}
use Rattle.pam_handle.specs.Handle.{PlainHandle}
use Rattle.dispatch_core.specs.Lines.{answers_by}
use Rattle.dispatch_core.specs.Calls.{Asking, Held, Went, goes, held}
use Rattle.dispatch_core.specs.Pending.{is_other_pending}
use Rattle.pam_handle.specs.Call.{Called, called, items_before, room_with, tokens_cleared, request_forgotten, waits_after}

-- ---- its flags

-- PAM_UPDATE_AUTHTOK, the flag of the second pass of a change of token (pam_chauthtok(3))
abbrev pub update_authtok : ℕ
update_authtok = 0x2000

-- whether flags hold one of those of the two passes of a change of token, which only the library may set
abbrev pub has_pass_flag : ℕ → Bool
has_pass_flag flags = has_flag flags prelim_check || has_flag flags update_authtok

-- a call is refused for its flags: a change of token with one of these
abbrev pub is_refused_for_flags : Func → ℕ → Bool
is_refused_for_flags ChAuthTok flags = has_pass_flag flags
is_refused_for_flags func flags = false

-- PAM_ESTABLISH_CRED, which the flags 0 mean (pam_setcred(3))
abbrev pub establish_cred : ℕ
establish_cred = 0x2

abbrev pub credential_flags : ℕ → ℕ
credential_flags flags = if flags == 0 then establish_cred else flags

-- the flags that modules see in a pass, from those of the call; in a change of token it depends on whether it is the
-- second pass
abbrev pub flags_seen : Func → Bool → ℕ → ℕ
flags_seen SetCred second flags = credential_flags flags
flags_seen ChAuthTok false flags = bit_or flags prelim_check
flags_seen ChAuthTok true flags = bit_or flags update_authtok
flags_seen func second flags = flags

-- ---- before its passes

-- the room in which they begin: authenticate and chauthtok have cleared the tokens, unless they are resumed
abbrev pub room_begun : Func → PlainHandle → PlainRoom
room_begun func h = room_with (items_before func h.pending h.room.transaction.items) h.room

-- ---- its passes

-- the state of a transaction between its calls
abbrev pub held_in : PlainHandle → Held
held_in h = held h.authenticated h.opened h.pending

module _ (players : List Player) where
  -- lines return what the definitions of their modules say
  abbrev pub asking_by : ℕ → Asking State
  asking_by flags func second = answers_by players func (flags_seen func second flags)

  -- the passes that are left of a call
  abbrev pub passes_of : Func → ℕ → PlainHandle → PlainWorld → Went State
  passes_of func flags h w =
      goes (asking_by flags) h.stacks func (held_in h) (state_of (room_begun func h) w)

-- a transaction as the passes of a call leave it
abbrev pub past_passes : Went State → PlainHandle → PlainHandle
past_passes r h = record h {
  room = r.state.room;
  authenticated = r.held.authenticated;
  opened = r.held.opened;
  pending = r.held.pending;
}

-- ---- after its passes

-- the end of a call: authenticate clears the tokens and waits, chauthtok clears the tokens, and after each of the six
-- the requested delay is dropped
abbrev pub ended : (Code → ℕ → ℕ) → Func → Code → PlainHandle → PlainWorld → Called
ended number Authenticate code h w =
    let waited = waits_after number code (tokens_cleared h) w in
    called code (request_forgotten waited.handle) waited.world
ended number ChAuthTok code h w = called code (request_forgotten (tokens_cleared h)) w
ended number func code h w = called code (request_forgotten h) w

-- if the call is incomplete, nothing of this is done yet
abbrev pub finished : (Code → ℕ → ℕ) → Func → Went State → PlainHandle → Called
finished number func r h =
    if is_some r.held.pending then called r.code (past_passes r h) r.state.world
    else ended number func r.code (past_passes r h) r.state.world

-- ---- the call

-- `number` is what the application's delay function returns
abbrev pub stack_call : List Player → (Code → ℕ → ℕ) → Func → ℕ → PlainHandle → PlainWorld → Called
stack_call players number func flags h w =
    if is_refused_for_flags func flags then called codes.SystemErr h w
    else if is_other_pending h.pending func then called codes.Abort h w
    else finished number func (passes_of players func flags h w) h
