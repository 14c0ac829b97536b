-- Tokens that were set before a call, and those that are set while it waits (pam_get_authtok(3),
-- pam_fail_delay(3); the statement is this project's own).
use Rattle.std.specs.Prelude.{◌≡◌, ℕ, false, true, List, Option, None}
use Rattle.pam_base.specs.declared.code.Code.{Code}
use Rattle.pam_base.specs.declared.call.Func.{Func}
use Rattle.pam_base.specs.declared.call.Func.TheVariants.{Authenticate}
use Rattle.dispatch_core.specs.Calls.{Went}
use Rattle.dispatch_core.specs.Pending.{is_other_pending}
use Rattle.dispatch_core.specs.pam_room.specs.Module.{Player}
use Rattle.dispatch_core.specs.pam_room.specs.State.{PlainWorld, State}
use Rattle.pam_handle.specs.AnyWorld.{AreUnset, BeginsUnset}
use Rattle.pam_handle.specs.Call.{Called, called, clears_tokens, request_forgotten, waits_after}
use Rattle.pam_handle.specs.Handle.{PlainHandle, in_room}
use Rattle.pam_handle.specs.StackCalls.{is_refused_for_flags, passes_of, room_begun, stack_call}

-- the transaction with these tokens
abbrev pub with_tokens : Option (List ℕ) → Option (List ℕ) → PlainHandle → PlainHandle
with_tokens token old h = in_room (record h.room {
  transaction = record h.room.transaction {
    items = record h.room.transaction.items {
      auth_tok = token;
      old_auth_tok = old;
    };
  };
}) h

-- a call of authenticate or chauthtok that begins, and isn't refused for its flags, does the same
-- whatever tokens were set before: its code, its prompts, what it leaves in the transaction and in
-- files, and its wait
abbrev pub EarlierTokensDontMatter : Type 0
EarlierTokensDontMatter =
    (players : List Player) (number : Code → ℕ → ℕ) (func : Func) (flags : ℕ) (h : PlainHandle)
    (w : PlainWorld) (token old : Option (List ℕ)) → clears_tokens func ≡ true →
    h.pending ≡ None → is_refused_for_flags func flags ≡ false →
    stack_call players number func flags (with_tokens token old h) w
    ≡ stack_call players number func flags h w

-- a call that waits from this transaction and world on, and then only forgets the requested delay
abbrev pub waits_from : (Code → ℕ → ℕ) → Code → PlainHandle → PlainWorld → Called
waits_from number code h w =
    let waited = waits_after number code h w in
    called code (request_forgotten waited.handle) waited.world

-- where the wait begins: both tokens are unset, and what follows is the wait
pub record WaitsUnset (number : Code → ℕ → ℕ) (r : Went State) (c : Called) : Type 0 where
  pub before : PlainHandle
  pub unset : AreUnset before.room.transaction.items
  pub rest : c ≡ waits_from number r.code before r.state.world

-- if an authentication isn't incomplete after its pass, both tokens are unset when the wait begins
abbrev pub NoTokenWhileItWaits : Type 0
NoTokenWhileItWaits =
    (players : List Player) (number : Code → ℕ → ℕ) (flags : ℕ) (h : PlainHandle)
    (w : PlainWorld) → is_other_pending h.pending Authenticate ≡ false →
    let r = passes_of players Authenticate flags h w in
    r.held.pending ≡ None →
    WaitsUnset number r (stack_call players number Authenticate flags h w)

-- ---- with real objects too

-- the transaction as it is when the first pass of a call begins or is resumed
abbrev pub begun_for : Func → PlainHandle → PlainHandle
begun_for func h = in_room (room_begun func h) h

-- A call that begins: the transaction in which its first line is run.
pub record BeginsWithoutTokens (func : Func) (h : PlainHandle) : Type 0 where
  -- it is the same whatever tokens were set before the call
  pub same : (token old : Option (List ℕ)) →
      begun_for func (with_tokens token old h) ≡ begun_for func h
  -- no token is set in it
  pub unset : AreUnset (begun_for func h).room.transaction.items
  -- which is what `Handle::pass` requires, the function that runs the lines
  pub required : (begun : PlainHandle) →
      BeginsUnset func None begun.room.transaction.items →
      AreUnset begun.room.transaction.items

abbrev pub FirstLineSeesNoToken : Type 0
FirstLineSeesNoToken =
    (func : Func) (h : PlainHandle) → clears_tokens func ≡ true → h.pending ≡ None →
    BeginsWithoutTokens func h
