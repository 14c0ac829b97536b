-- The line at which a stack call ran out of memory: what holds if some objects are modelled holds if all are.
use Rattle.std.proofs.Common.{◌≡◌, ◌⊎◌, inl, inr, ℕ, Bool, IsTrue, List, [], Option, Some, None}
use Rattle.pam_base.specs.declared.code.Code.{Code}
use Rattle.pam_base.specs.declared.call.Func.{Func}
use Rattle.pam_base.specs.declared.call.Func.TheVariants as funcs
use Rattle.pam_handle.specs.control_words.specs.Stack.{Stack}
use Rattle.pam_handle.specs.handler_chain.specs.declared.pass_kind.PassKind.{PassKind}
use Rattle.pam_handle.specs.handler_chain.specs.Route.{KeptAnswers}
use Rattle.pam_handle.specs.dispatch_core.specs.Failing.{StopsAt}
use Rattle.pam_handle.specs.pam_room.specs.Module.{Player}
use Rattle.pam_handle.specs.pam_room.specs.State.{PlainWorld, State, state_of}
use Rattle.pam_handle.specs.Handle.{PlainHandle}
use Rattle.pam_handle.specs.dispatch_core.specs.Pending.{first_in, past_in}
use Rattle.pam_handle.specs.Around.{Around, all_tell}
use Rattle.pam_handle.specs.Items.{all_told}
use Rattle.pam_handle.specs.Stopping.{PassedNothing, Passing, Stops, StopsFirst, StopsIn, StopsInChange, StopsInUpdate, StopsLater, passing}
use Rattle.pam_handle.specs.StackCalls.{room_begun}
use Rattle.pam_library.specs.Slots.{PlainSlot, closed, opened}
use Rattle.pam_library.specs.AnyWorld.{StackStops, StopsBy, around_of}

at_when : (players : List Player) (tells all : Bool) → (IsTrue all → IsTrue tells)
    → (func : Func) (flags : ℕ) (stack : Stack) (kind : PassKind) (kept : KeptAnswers) (past : List Code) (start end : State)
    → StopsAt players func flags stack kind kept past tells start end → StopsAt players func flags stack kind kept past all start end
at_when players tells all known func flags stack kind kept past start end s = record {
  more = s.more;
  trail = s.trail;
  early = s.early;
  resumed = s.resumed;
  index = s.index;
  opinion = s.opinion;
  leads = s.leads;
  at_work = s.at_work;
  played = λ told. s.played (known told);
}

update_when : (p : Passing) (all : Bool) (K : Type 0) → (IsTrue all → IsTrue p.tells) → (p.world_is_kept → K)
    → (flags : ℕ) (first : Option KeptAnswers) (past : List Code)
    → StopsInUpdate flags first past p → StopsInUpdate flags first past (record p { tells = all; world_is_kept = K })
update_when p all K known kept flags first past (inl u) = inl (u.0, kept u.1)
update_when p all K known kept flags first past (inr s) = inr (at_when p.players p.tells all known _ _ _ _ _ _ _ _ s)

module _ (p : Passing) (all : Bool) (K : Type 0) (known : IsTrue all → IsTrue p.tells) (kept : p.world_is_kept → K) where
  abbrev known_as : Passing
  known_as = record p { tells = all; world_is_kept = K }

  nothing_when : PassedNothing p → PassedNothing known_as
  nothing_when u = (u.0, kept u.1)

  first_when : (func : Func) (flags : ℕ) (past : List Code) → StopsFirst func flags past p → StopsFirst func flags past known_as
  first_when func flags past s = at_when p.players p.tells all known _ _ _ _ _ _ _ _ s

  later_when : (flags : ℕ) (past : List Code) → StopsLater flags past p → StopsLater flags past known_as
  later_when flags past s = record {
    between = s.between;
    first = s.first;
    checked = λ told. s.checked (known told);
    sound = s.sound;
    update = update_when (record p { start = s.between; world_is_kept = p.end.world ≡ s.between.world }) all (p.end.world ≡ s.between.world) known
        (λ e. e) flags s.first [] s.update;
  }

  change_when : (flags : ℕ) (first : Option KeptAnswers) (past : List Code) → StopsInChange flags first past p → StopsInChange flags first past known_as
  change_when flags None past (inl u) = inl (nothing_when u)
  change_when flags None past (inr (inl s)) = inr (inl (first_when funcs.ChAuthTok flags past s))
  change_when flags None past (inr (inr s)) = inr (inr (later_when flags past s))
  change_when flags (Some first) past s = update_when p all K known kept flags (Some first) past s

  once_when : (func : Func) (flags : ℕ) (past : List Code) → PassedNothing p ⊎ StopsFirst func flags past p
      → PassedNothing known_as ⊎ StopsFirst func flags past known_as
  once_when func flags past (inl u) = inl (nothing_when u)
  once_when func flags past (inr s) = inr (first_when func flags past s)

  in_when : (func : Func) (flags : ℕ) (first : Option KeptAnswers) (past : List Code) → StopsIn func flags first past p → StopsIn func flags first past known_as
  in_when funcs.ChAuthTok flags first past s = change_when flags first past s
  in_when func flags first past s = once_when func flags past s

-- by what is modelled alone
pub stops_plain : (func : Func) (flags : ℕ) (a : Around) → (a.world_is_kept → a.new.world ≡ a.old.world) → Stops func flags a
    → Stops func flags (around_of a.old.players (all_tell a.old) a.old.handle a.new.handle a.old.world a.new.world)
stops_plain func flags a kept s = record {
  room = s.room;
  ended = s.ended;
  stopped = in_when (record (passing a) { start = state_of (room_begun func a.old.handle) a.old.world; end = state_of s.room a.new.world }) (all_tell a.old)
      (a.new.world ≡ a.old.world) (λ t. t) kept
      func flags (first_in a.old.handle.pending) (past_in a.old.handle.pending) s.stopped;
}

module _ (players : List Player) (tells all : Bool) (known : IsTrue all → IsTrue tells) where
  call_when : (func : Func) (flags : ℕ) (old new : PlainHandle) (w v : PlainWorld) → Stops func flags (around_of players tells old new w v)
      → Stops func flags (around_of players all old new w v)
  call_when func flags old new w v s = record {
    room = s.room;
    ended = s.ended;
    stopped = in_when (record (passing (around_of players tells old new w v)) { start = state_of (room_begun func old) w; end = state_of s.room v }) all
        (v ≡ w) known (λ e. e)
        func flags (first_in old.pending) (past_in old.pending) s.stopped;
  }

  stack_when : (func : Func) (flags : ℕ) (old new : PlainSlot) (w v : PlainWorld) → StackStops func flags players tells old new w v
      → StackStops func flags players all old new w v
  stack_when func flags (closed conv) new w v s = s
  stack_when func flags (opened old) (closed conv) w v s = s
  stack_when func flags (opened old) (opened new) w v s = call_when func flags (all_told old) new w v s

  pub stops_when : (stack : Option (Func × ℕ)) (old new : PlainSlot) (w v : PlainWorld) → StopsBy players tells stack old new w v → StopsBy players all stack old new w v
  stops_when (Some stack) old new w v s = stack_when stack.0 stack.1 old new w v s
  stops_when None old new w v s = s
