-- The line at which a call ran out of memory, by the line at which its pass did.
use Rattle.std.proofs.Common.{◌≡◌, ◌⊎◌, inl, inr, ℕ, true, false, IsTrue, List, [], length, Option, Some, None, Result, Ok, Err, OnErr, sym, subst}
use Rattle.pam_base.specs.declared.code.Code.{Code}
use Rattle.pam_base.specs.declared.call.Func.{Func}
use Rattle.pam_base.specs.declared.call.Func.TheVariants.{Authenticate, SetCred, AcctMgmt, OpenSession, CloseSession, ChAuthTok}
use Rattle.pam_base.specs.declared.fault.NoMemory.{NoMemory}
use Rattle.frozen_chain.specs.Kept.{Answers}
use Rattle.dispatch_core.specs.AnyWorld.{GoesSoundly}
use Rattle.dispatch_core.specs.AnswersSoFar.{past_of}
use Rattle.dispatch_core.specs.Calls as calls
use Rattle.dispatch_core.specs.Calls.{answers_held, held}
use Rattle.dispatch_core.specs.Failing.{StopsAt}
use Rattle.dispatch_core.specs.Pending.{Pending, first_in, past_in}
use Rattle.dispatch_core.specs.pam_room.specs.Module.{notes_of}
use Rattle.dispatch_core.specs.pam_room.specs.State.{PlainRoom, PlainWorld, State, state_of}
use Rattle.dispatch_core.specs.handler_chain.specs.Route.{KeptAnswers}
use Rattle.pam_handle.specs.Around.{Around}
use Rattle.pam_handle.specs.Pass.{PassesTo, kept_answers}
use Rattle.pam_handle.specs.Passes.{is_followed, is_second, kind_of, stack_at, stack_type}
use Rattle.pam_handle.specs.StackCalls.{asking_by, flags_seen, room_begun}
use Rattle.pam_handle.specs.Stopping.{PassedNothing, Passing, Stops, StopsIn, StopsInChange, StopsInUpdate, StopsLater, first_kept, passing, room_failed}
use Rattle.pam_handle.proofs.AllPassesFacts.{followed}

false_true : false ≡ true → ⊥
false_true e = (cc)

-- a fact about running out of memory, from another one
pub on_err_from : {P Q : Type 0} (result : Result Code NoMemory) → (P → Q) → OnErr result P → OnErr result Q
on_err_from (Ok code) f p = tt
on_err_from (Err none) f p = f p

-- in the first pass of a call
abbrev pub FirstStops : Func → ℕ → List Code → Passing → Type 0
FirstStops func flags past p = PassedNothing p
    ⊎ StopsAt p.players func (flags_seen func false flags) (stack_at p.stacks (stack_type func)) (kind_of func (first_kept func p.held))
    (answers_held (first_kept func p.held)) past p.tells p.start p.end

once : (func : Func) (flags : ℕ) (first : Answers) (past : List Code) (p : Passing) → is_second func first ≡ false → FirstStops func flags past p
    → StopsIn func flags (kept_answers first) past p
once ChAuthTok flags (Some cells) past p begins s = absurd (false_true (sym begins))
once ChAuthTok flags None past p begins (inl u) = inl u
once ChAuthTok flags None past p begins (inr t) = inr (inl t)
once func flags first past p begins s = s

pub stops_once : (result : Result Code NoMemory) (func : Func) (flags : ℕ) (first : Answers) (past : List Code) (p : Passing)
    → is_second func first ≡ false → OnErr result (FirstStops func flags past p) → OnErr result (StopsIn func flags (kept_answers first) past p)
stops_once result func flags first past p begins = on_err_from result (once func flags first past p begins)

-- in the second pass of a change of token
pub stops_second : (result : Result Code NoMemory) (func : Func) (flags : ℕ) (first : Answers) (past : List Code) (p : Passing)
    → is_second func first ≡ true → OnErr result (StopsInUpdate flags (kept_answers first) past p)
    → OnErr result (StopsIn func flags (kept_answers first) past p)
stops_second result ChAuthTok flags None past p is s = absurd (false_true is)
stops_second result ChAuthTok flags (Some cells) past p is s = s
stops_second result func flags first past p is s = absurd (false_true is)

update_by : (flags : ℕ) (first : Option KeptAnswers) (past : List Code) (p : Passing) (K : Type 0) → (p.world_is_kept → K)
    → StopsInUpdate flags first past p → StopsInUpdate flags first past (record p { world_is_kept = K })
update_by flags first past p K kept (inl u) = inl (u.0, kept u.1)
update_by flags first past p K kept (inr t) = inr t

-- after a first pass with SUCCESS
pub stops_twice : (result : Result Code NoMemory) (func : Func) (flags : ℕ) (first : Answers) (past : List Code) (p : Passing) (code : Code)
    (kept : Option KeptAnswers) (paused : Option (List Code)) (between : State) (L : Type 0)
    → is_second func first ≡ false → is_followed func code ≡ true → paused ≡ None
    → (IsTrue p.tells → PassesTo (calls.first_pass (asking_by p.players flags) p.stacks func past p.held p.start) code kept paused between)
    → GoesSoundly (notes_of p.players) (length p.players) p.start.room.transaction between.room.transaction p.start.world.process between.world.process
    → (L → p.end.world ≡ between.world)
    → OnErr result (StopsInUpdate flags kept (past_of paused) (record p { start = between; world_is_kept = L }))
    → OnErr result (StopsIn func flags (kept_answers first) past p)
stops_twice result ChAuthTok flags (Some cells) past p code kept paused between L begins follows over checked sound same s = absurd (false_true (sym begins))
stops_twice result ChAuthTok flags None past p code kept paused between L begins follows over checked sound same s = on_err_from result (λ t. inr (inr (record {
  between = between;
  first = kept;
  checked = λ told. subst (λ (k : Code). PassesTo (calls.first_pass (asking_by p.players flags) p.stacks ChAuthTok past p.held p.start) k kept None between)
      (followed ChAuthTok code follows).1
      (subst (λ (o : Option (List Code)). PassesTo
      (calls.first_pass (asking_by p.players flags) p.stacks ChAuthTok past p.held p.start) code kept o between) over (checked told));
  sound = sound;
  update = update_by flags kept [] (record p { start = between; world_is_kept = L }) (p.end.world ≡ between.world) same
      (subst (λ (o : Option (List Code)). StopsInUpdate flags kept (past_of o) (record p { start = between; world_is_kept = L })) over t);
}))) s
stops_twice result func flags first past p code kept paused between L begins follows over checked sound same s = absurd (false_true follows)

-- ---- the whole call

-- it doesn't matter which call was pending, and why the world is the very same
module _ (p : Passing) (pending : Option Pending) (K : Type 0) (kept : p.world_is_kept → K) where
  abbrev kept_as : Passing
  kept_as = record p { held = record p.held { pending = pending }; world_is_kept = K }

  nothing_as : PassedNothing p → PassedNothing kept_as
  nothing_as u = (u.0, kept u.1)

  later_as : (flags : ℕ) (past : List Code) → StopsLater flags past p → StopsLater flags past kept_as
  later_as flags past s = record { between = s.between; first = s.first; checked = s.checked; sound = s.sound; update = s.update }

  change_as : (flags : ℕ) (first : Option KeptAnswers) (past : List Code) → StopsInChange flags first past p → StopsInChange flags first past kept_as
  change_as flags None past (inl u) = inl (nothing_as u)
  change_as flags None past (inr (inl t)) = inr (inl t)
  change_as flags None past (inr (inr s)) = inr (inr (later_as flags past s))
  change_as flags (Some first) past (inl u) = inl (nothing_as u)
  change_as flags (Some first) past (inr t) = inr t

  stops_as : (func : Func) (flags : ℕ) (first : Option KeptAnswers) (past : List Code) → StopsIn func flags first past p → StopsIn func flags first past kept_as
  stops_as ChAuthTok flags first past s = change_as flags first past s
  stops_as Authenticate flags first past (inl u) = inl (nothing_as u)
  stops_as Authenticate flags first past (inr t) = inr t
  stops_as SetCred flags first past (inl u) = inl (nothing_as u)
  stops_as SetCred flags first past (inr t) = inr t
  stops_as AcctMgmt flags first past (inl u) = inl (nothing_as u)
  stops_as AcctMgmt flags first past (inr t) = inr t
  stops_as OpenSession flags first past (inl u) = inl (nothing_as u)
  stops_as OpenSession flags first past (inr t) = inr t
  stops_as CloseSession flags first past (inl u) = inl (nothing_as u)
  stops_as CloseSession flags first past (inr t) = inr t

-- the passes of a call: the room in which they begin and the call that was pending, the room and the world in which they
-- end, and that the world is the very same
abbrev pub passed_in : Around → PlainRoom → Option Pending → PlainRoom → PlainWorld → Type 0 → Passing
passed_in a start pending end world kept = record (passing a) {
  held = held a.old.handle.authenticated a.old.handle.opened pending;
  start = state_of start a.old.world;
  end = state_of end world;
  world_is_kept = kept;
}

-- if it ran out of memory, a call left the world as its passes did
pub stops_call : (result : Result Code NoMemory) (func : Func) (flags : ℕ) (a : Around) (start room : PlainRoom) (q : Option Pending) (given : List Code)
    (first : Option KeptAnswers) (mid : PlainWorld) (L : Type 0)
    → start ≡ room_begun func a.old.handle → given ≡ past_in a.old.handle.pending → first ≡ first_in a.old.handle.pending
    → OnErr result (a.new.handle.room ≡ room_failed func room) → OnErr result (a.new.world ≡ mid) → OnErr result (L → a.world_is_kept)
    → OnErr result (StopsIn func flags first given (passed_in a start q room mid L)) → OnErr result (Stops func flags a)
stops_call (Ok code) func flags a start room q given first mid L begun g f ended same kept s = tt
stops_call (Err none) func flags a start room q given first mid L begun g f ended same kept s = record {
  room = room;
  ended = ended;
  stopped = stops_as (passed_in a (room_begun func a.old.handle) q room a.new.world L) a.old.handle.pending a.world_is_kept kept func flags
      (first_in a.old.handle.pending) (past_in a.old.handle.pending)
      (subst (λ (w : PlainWorld). StopsIn func flags (first_in a.old.handle.pending) (past_in a.old.handle.pending)
      (passed_in a (room_begun func a.old.handle) q room w L)) (sym same)
      (subst (λ (k : Option KeptAnswers). StopsIn func flags k (past_in a.old.handle.pending) (passed_in a (room_begun func a.old.handle) q room mid L)) f
      (subst (λ (k : List Code). StopsIn func flags first k (passed_in a (room_begun func a.old.handle) q room mid L)) g
      (subst (λ (r : PlainRoom). StopsIn func flags first given (passed_in a r q room mid L)) begun s))));
}
