-- Where a stack call ran out of memory (this project's own).
use Rattle.std.specs.Prelude.{◌≡◌, ◌⊎◌, ℕ, Bool, true, false, IsTrue, List, [], length, Option, Some, None}
use Rattle.pam_base.specs.declared.code.Code.{Code}
use Rattle.pam_base.specs.declared.code.Code.TheVariants as codes
use Rattle.pam_base.specs.declared.call.Func.{Func}
use Rattle.pam_base.specs.declared.call.Func.TheVariants.{Authenticate, ChAuthTok}
use Rattle.dispatch_core.specs.service_load.specs.Stacks.{Stacks}
use Rattle.dispatch_core.specs.handler_chain.specs.declared.pass_kind.PassKind.TheVariants as kinds
use Rattle.dispatch_core.specs.handler_chain.specs.Route.{KeptAnswers}
use Rattle.dispatch_core.specs.AnyWorld.{GoesSoundly}
pub use Rattle.dispatch_core.specs.Calls.{first_kept, first_stack}
use Rattle.dispatch_core.specs.Calls.{Held, answers_held, kind_of}
use Rattle.dispatch_core.specs.Failing.{StopsAt}
use Rattle.dispatch_core.specs.Pending.{first_in, past_in}
use Rattle.dispatch_core.specs.pam_room.specs.Module.{Player, notes_of}
use Rattle.dispatch_core.specs.pam_room.specs.State.{PlainRoom, State, state_of}
use Rattle.pam_handle.specs.Around.{Around, all_tell, state_in}
use Rattle.pam_handle.specs.Call.{without_its_tokens, without_request}
use Rattle.pam_handle.specs.Pass.{PassesTo, passed}
use Rattle.pam_handle.specs.StackCalls.{flags_seen, held_in, room_begun}

-- ---- the room in which a call ends

-- if memory runs out, the requested delay is dropped, and a call that clears the tokens clears them
abbrev pub room_failed : Func → PlainRoom → PlainRoom
room_failed Authenticate r = without_request (without_its_tokens r)
room_failed ChAuthTok r = without_request (without_its_tokens r)
room_failed func r = without_request r

-- ---- where the passes of a call stopped

-- What the passes of a call begin and end with: the modules, the stacks, what is held between two calls, whether all
-- objects are modelled, the state before and after, and that the world is the very same.
pub record Passing : Type 1 where
  pub players : List Player
  pub stacks : Stacks
  pub held : Held
  pub tells : Bool
  pub start : State
  pub end : State
  pub world_is_kept : Type 0

abbrev pub passing : Around → Passing
passing a = record {
  players = a.old.players;
  stacks = a.old.handle.stacks;
  held = held_in a.old.handle;
  tells = all_tell a.old;
  start = state_in a.old;
  end = state_in a.new;
  world_is_kept = a.world_is_kept;
}

-- nothing happened
abbrev pub PassedNothing : Passing → Type 0
PassedNothing p = (p.end.room ≡ p.start.room) × p.world_is_kept

-- they stopped at a line of the first pass
abbrev pub StopsFirst : Func → ℕ → List Code → Passing → Type 0
StopsFirst func flags past p =
    StopsAt p.players func (flags_seen func false flags) (first_stack func p.stacks)
    (kind_of func (first_kept func p.held)) (answers_held (first_kept func p.held)) past p.tells
    p.start p.end

-- in the second pass of a change of token, with the codes of the first
abbrev pub StopsInUpdate : ℕ → Option KeptAnswers → List Code → Passing → Type 0
StopsInUpdate flags first past p = PassedNothing p
    ⊎ StopsAt p.players ChAuthTok (flags_seen ChAuthTok true flags) p.stacks.password kinds.Follow
    (answers_held first) past p.tells p.start p.end

-- in its second pass, after a first one with SUCCESS
pub record StopsLater (flags : ℕ) (past : List Code) (p : Passing) : Type 0 where
  pub between : State
  pub first : Option KeptAnswers
  pub checked : IsTrue p.tells →
      PassesTo (passed p.players ChAuthTok (flags_seen ChAuthTok false flags) kinds.Keep None
      p.stacks.password past p.start) codes.Success first None between
  pub sound : GoesSoundly (notes_of p.players) (length p.players) p.start.room.transaction
      between.room.transaction p.start.world.process between.world.process
  pub update : StopsInUpdate flags first [] (record p {
    start = between;
    world_is_kept = p.end.world ≡ between.world;
  })

-- in its first pass, or later
abbrev pub StopsInCheck : ℕ → List Code → Passing → Type 0
StopsInCheck flags past p = PassedNothing p
    ⊎ (StopsFirst ChAuthTok flags past p ⊎ StopsLater flags past p)

-- with the codes that the first pass cached if the call is resumed in its second pass
abbrev pub StopsInChange : ℕ → Option KeptAnswers → List Code → Passing → Type 0
StopsInChange flags None past p = StopsInCheck flags past p
StopsInChange flags (Some first) past p = StopsInUpdate flags (Some first) past p

-- the same for any call: one pass, or the two of a change of token
abbrev pub StopsIn : Func → ℕ → Option KeptAnswers → List Code → Passing → Type 0
StopsIn ChAuthTok flags first past p = StopsInChange flags first past p
StopsIn func flags first past p = PassedNothing p ⊎ StopsFirst func flags past p

-- A call ran out of memory. In the room in which its passes stopped, the call itself only cleared the tokens and the
-- requested delay.
pub record Stops (func : Func) (flags : ℕ) (a : Around) : Type 0 where
  pub room : PlainRoom
  pub ended : a.new.handle.room ≡ room_failed func room
  pub stopped : StopsIn func flags (first_in a.old.handle.pending) (past_in a.old.handle.pending)
      (record (passing a) {
        start = state_of (room_begun func a.old.handle) a.old.world;
        end = state_of room a.new.world;
      })
