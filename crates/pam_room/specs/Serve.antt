-- How a line of a stack is run (pam.conf(5), Linux-PAM Module Writers' Guide; that a line may be incomplete, and when
-- replaced data are cleaned up, is this project's own).
use Rattle.std.specs.Prelude.{◌≡◌, ℕ, Bool, false, if◌then◌else◌, Option, Some, None, Result, IsTrue, IfOk, OnErr, List, [], ◌∷◌, ◌++◌, slice_get}
use Rattle.pam_base.specs.declared.code.Code.{Code}
use Rattle.pam_base.specs.declared.code.Code.TheVariants.{ModuleUnknown, Incomplete}
use Rattle.data_cleanup.specs.Cleanup.{Notes, swept_list, swept_ledger}
use Rattle.pam_room.specs.State.{Seen, State, scene_in, with_scene}
use Rattle.pam_room.specs.Call.{PlainCall}
use Rattle.pam_room.specs.Module.{Player, played_in, with_played, notes_of, BreaksIn}

-- a return code, and the state after it
pub record Answered : Type 0 where
  pub answer : Code
  pub state : State

-- before a module runs: its number is at work, and nothing is incomplete
abbrev pub at_work : ℕ → State → State
at_work number s = record s {
  room = record s.room {
    transaction = record s.room.transaction {
      put_off = false;
      serving = number;
    };
  };
}

-- all replaced data are cleaned up by their owners
abbrev pub swept : Notes → State → State
swept note s = record {
  room = record s.room {
    transaction = record s.room.transaction
        { datums = swept_list s.room.transaction.datums };
  };
  world = record s.world {
    process = record s.world.process
        { ledger = swept_ledger note s.room.transaction.datums s.world.process.ledger };
  };
}

-- if a module's conversation left the call incomplete, the module's code doesn't count
abbrev pub answer_or_incomplete : Bool → Code → Code
answer_or_incomplete put_off code = if put_off then Incomplete else code

-- a module serves a call: it does what its definition says, and the data that it replaced are
-- cleaned up
abbrev pub played_by : List Player → Player → PlainCall → State → Answered
played_by players player call s =
    let p = played_in player.plays call (scene_in s) in
    record {
      answer = answer_or_incomplete p.room.put_off p.code;
      state = swept (notes_of players) (with_scene (with_played p (scene_in s)) s);
    }

-- a line whose module doesn't exist returns MODULE_UNKNOWN, and changes nothing
abbrev pub unknown : State → Answered
unknown s = record { answer = ModuleUnknown; state = s }

abbrev pub served_by : List Player → Option Player → ℕ → PlainCall → State → Answered
served_by players (Some player) number call s = played_by players player call (at_work number s)
served_by players None number call s = unknown s

-- the module with this number serves a call, if there is one
abbrev pub served : List Player → Option ℕ → PlainCall → State → Answered
served players (Some number) call s = served_by players (slice_get players number) number call s
served players None call s = unknown s

-- a line that was run is added to the trace
abbrev pub visited : ℕ → List ℕ → Answered → Answered
visited place path a = record a {
  state = record a.state {
    room = record a.state.room {
      transaction = record a.state.room.transaction {
        trail = a.state.room.transaction.trail ++ record {
          place = place;
          path = path;
          answer = a.answer;
        } ∷ [];
      };
    };
  };
}

-- the line with this number and path is run by the module with this number, if there is one
abbrev pub serve_line : List Player → Option ℕ → ℕ → List ℕ → PlainCall → State → Answered
serve_line players number place path call s = visited place path (served players number call s)

-- a code and a state are those of a result
pub record AnswersAs (a : Answered) (code : Code) (state : State) : Type 0 where
  pub answer_is : code ≡ a.answer
  pub state_is : state ≡ a.state

-- a module with this number ran out of memory while it served, and left what it may then leave
abbrev pub PlayerBreaks : Option Player → ℕ → PlainCall → State → State → Type 0
PlayerBreaks (Some player) number call old new =
    BreaksIn player.breaks call (scene_in (at_work number old)) (scene_in new)
PlayerBreaks None number call old new = ⊥

-- the same for the module with this number, if it exists; a line whose module doesn't exist doesn't
-- allocate
abbrev pub LineBreaks : List Player → Option ℕ → PlainCall → State → State → Type 0
LineBreaks players (Some number) call old new =
    PlayerBreaks (slice_get players number) number call old new
LineBreaks players None call old new = ⊥

-- What a line gives and leaves if all objects are modelled: an Ok is what is recorded of its run, and after an Err the
-- state is what its module may leave.
pub record ServesLine {E : Type 0} (result : Result Code E) (players : List Player)
    (number : Option ℕ) (call : PlainCall) (recorded : Answered → Answered)
    (old new : Seen) : Type 0 where
  pub told : IsTrue old.tells → IfOk result (λ code. AnswersAs
      (recorded (served players number call old.state)) code new.state)
  pub broken : IsTrue old.tells →
      OnErr result (LineBreaks players number call old.state new.state)
