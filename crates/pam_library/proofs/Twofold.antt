-- The stack calls on a transaction in two runs that are alike for its number.
use Rattle.std.proofs.Common.{◌≡◌, ℕ, ◌==◌, Bool, true, false, if◌then◌else◌, List, Option, Some, None, refl, ap, ◌∙◌, subst}
use Rattle.pam_base.specs.declared.code.Code.{Code}
use Rattle.pam_base.specs.declared.code.Code.TheVariants as codes
use Rattle.pam_base.specs.declared.call.Func.{Func}
use Rattle.pam_base.specs.declared.call.Func.TheVariants.{Authenticate, ChAuthTok}
use Rattle.pam_handle.specs.dispatch_core.specs.Lines.{answers_by}
use Rattle.fail_delay.specs.Delay.{asked_delay}
use Rattle.fail_delay.specs.Wait.{wait_of}
use Rattle.pam_outside.specs.Time.{random_taken, rested}
use Rattle.pam_handle.specs.pam_room.specs.Module.{Player}
use Rattle.pam_handle.specs.pam_room.specs.State.{PlainRoom, PlainWorld, State, state_of}
use Rattle.pam_handle.specs.handler_chain.specs.declared.pass_kind.PassKind.{PassKind}
use Rattle.pam_handle.specs.handler_chain.specs.Pass.{PassState, pass_after}
use Rattle.pam_handle.specs.handler_chain.specs.Route.{KeptAnswers}
use Rattle.pam_handle.specs.handler_chain.specs.Walk.{Walked}
use Rattle.pam_handle.specs.dispatch_core.specs.Pending.{Pending, is_other_pending}
use Rattle.pam_handle.specs.Handle.{PlainHandle, in_room}
use Rattle.pam_handle.specs.service_load.specs.Stacks.{Stacks}
use Rattle.pam_handle.specs.dispatch_core.specs.Calls.{Held, Went, answers_held, first_stack, held, passed_by, went}
use Rattle.pam_handle.specs.Call.{Called, called, clears_tokens, items_begun, random_taken_for, request_forgotten, rested_by, room_with, tokens_cleared, waits, without_its_tokens, without_request}
use Rattle.pam_handle.specs.StackCalls.{asking_by, ended, finished, flags_seen, held_in, is_refused_for_flags, passes_of, room_begun, stack_call}
use Rattle.pam_handle.proofs.EachPassFacts.{GoAlike, PassedAlike, WentAlike, passes_go_alike}
use Rattle.pam_library.proofs.Alongside.{PassTwins, WalkedTwins, pass_twins}
use Rattle.pam_library.proofs.Twins.{KeptIn, Twins, asked_twins, touched}

module _ (n number : ℕ) (first second : PlainWorld) where
  abbrev Both : State → State → Type 0
  Both a b = Twins n number first second a b

  -- ---- only the room

  no_tokens : (a b : State) → Both a b → Both (record a { room = without_its_tokens a.room }) (record b { room = without_its_tokens b.room })
  no_tokens a b t = touched n number without_its_tokens (record { same = λ r. refl; datums = λ r. refl; handle = λ r. refl }) first second a b t

  no_request : (a b : State) → Both a b → Both (record a { room = without_request a.room }) (record b { room = without_request b.room })
  no_request a b t = touched n number without_request (record { same = λ r. refl; datums = λ r. refl; handle = λ r. refl }) first second a b t

  -- a call that clears the tokens clears them, unless it is resumed
  begun_twins : (clears : Bool) (pending : Option Pending) (a b : State) → Both a b
      → Both (record a { room = room_with (if clears then items_begun pending a.room.transaction.items else a.room.transaction.items) a.room })
      (record b { room = room_with (if clears then items_begun pending b.room.transaction.items else b.room.transaction.items) b.room })
  begun_twins true None a b t = no_tokens a b t
  begun_twins true (Some p) a b t = t
  begun_twins false pending a b t = t

  -- ---- the world sleeps

  rested_twins : (wait : Option ℕ) (a b : State) → Both a b → Both (record a { world = rested_by wait a.world }) (record b { world = rested_by wait b.world })
  rested_twins None a b t = t
  rested_twins (Some m) a b t = elim (m == 0) as (λ (x : Bool). Both
      (record a { world = if x then a.world else record a.world { nap = rested a.world.nap m } })
      (record b { world = if x then b.world else record b.world { nap = rested b.world.nap m } })) [
        | true ↦ t
        | false ↦ record {
          room = t.room;
          world = t.world;
          first_kept = t.first_kept;
          second_kept = t.second_kept;
          first_data = t.first_data;
          second_data = t.second_data;
        }
      ]

  kept_random_taken : (start : PlainWorld) (w : PlainWorld) → KeptIn n number start w → KeptIn n number start (record w { clock = random_taken w.clock })
  kept_random_taken start w k = record {
    quiet = k.quiet;
    clock_is = k.clock_is;
    root_is = k.root_is;
    caller_is = k.caller_is;
    filed = k.filed;
    added = k.added;
    births = k.births;
    more = k.more;
    filed_is = k.filed_is;
    more_own = k.more_own;
    other_births = k.other_births;
    other_receipts = k.other_receipts;
  }

  -- a random word is read
  random_taken_twins : (longest : ℕ) (a b : State) → Both a b → Both (record a { world = random_taken_for longest a.world }) (record b { world = random_taken_for longest b.world })
  random_taken_twins longest a b t = elim (longest == 0) as (λ (x : Bool). Both
      (record a { world = if x then a.world else record a.world { clock = random_taken a.world.clock } })
      (record b { world = if x then b.world else record b.world { clock = random_taken b.world.clock } })) [
        | true ↦ t
        | false ↦ record {
          room = t.room;
          world = t.world;
          first_kept = kept_random_taken first a.world t.first_kept;
          second_kept = kept_random_taken second b.world t.second_kept;
          first_data = t.first_data;
          second_data = t.second_data;
        }
      ]

  -- ---- a pass

  by_twins : (kind : PassKind) (kept : Option KeptAnswers) (v w : Walked (PassState State)) → WalkedTwins (PassTwins Both) v w
      → PassedAlike Both (passed_by kind kept v) (passed_by kind kept w)
  by_twins kind kept v w t =
      let is : record v { state = record v.state { state = w.state.state } } ≡ w = ap (λ (s : PassState State). record v { state = s }) t.state.rest ∙ t.rest in
      subst (λ (x : Walked (PassState State)). PassedAlike Both (passed_by kind kept v) (passed_by kind kept x)) is
      (record { code = refl; kept = refl; paused = refl; state = t.state.state })

  passed_twins : (players : List Player) (flags : ℕ) (stacks : Stacks) (func : Func) → GoAlike Both (asking_by players flags) stacks func
  passed_twins players flags stacks func again kind kept past a b t =
      let answering = answers_by players func (flags_seen func again flags) in
      by_twins kind kept (pass_after kind (answers_held kept) answering (first_stack func stacks) past a) (pass_after kind (answers_held kept) answering (first_stack func stacks) past b)
      (pass_twins Both kind (answers_held kept) answering (λ rule at x y r. asked_twins n number first second players func (flags_seen func again flags) rule at x y r)
      (first_stack func stacks) past a b t)

  -- ---- a call

  -- the same except for room and world, and these are alike
  pub record CalledTwins (c d : Called) : Type 0 where
    pub rest : called c.code (in_room d.handle.room c.handle) d.world ≡ d
    pub state : Both (state_of c.handle.room c.world) (state_of d.handle.room d.world)

  either_twins : (refused other : Bool) (a b c d e f : Called) → CalledTwins a b → CalledTwins c d → CalledTwins e f
      → CalledTwins (if refused then a else if other then c else e) (if refused then b else if other then d else f)
  either_twins true other a b c d e f at_once aborted runs = at_once
  either_twins false true a b c d e f at_once aborted runs = aborted
  either_twins false false a b c d e f at_once aborted runs = runs

  module _ (delay : Code → ℕ → ℕ) where
    -- an authentication that waits for the requested time
    abbrev after_wait : Code → PlainHandle → PlainWorld → ℕ → Called
    after_wait code h w asked = let c = waits code asked (wait_of h.delay_on delay code asked) (tokens_cleared h) w in called code (request_forgotten c.handle) c.world

    waited_twins : (code : Code) (x : PlainHandle) (r : PlainRoom) (v w : PlainWorld) → Both (state_of x.room v) (state_of r w)
        → CalledTwins (ended delay Authenticate code x v) (ended delay Authenticate code (in_room r x) w)
    waited_twins code x r v w t =
        let asked : ℕ = asked_delay x.room.transaction.delay v.clock.word in
        let same : asked ≡ asked_delay r.transaction.delay w.clock.word = λ i. asked_delay (t.room i).transaction.delay (t.world i).clock.word in
        let wait : Option ℕ = wait_of x.delay_on delay code asked in
        let longest : ℕ = x.room.transaction.delay in
        let same_longest : longest ≡ r.transaction.delay = λ i. (t.room i).transaction.delay in
        let va : PlainWorld = random_taken_for longest v in
        let wa : PlainWorld = random_taken_for longest w in
        let rested : Both (state_of x.room (rested_by wait va)) (state_of r (rested_by wait wa)) =
        rested_twins wait (state_of x.room va) (state_of r wa) (random_taken_twins longest (state_of x.room v) (state_of r w) t) in
        let main : CalledTwins (after_wait code x va asked) (after_wait code (in_room r x) wa asked) = record {
          rest = refl;
          state = no_request (state_of (without_its_tokens x.room) (rested_by wait va)) (state_of (without_its_tokens r) (rested_by wait wa)) (no_tokens (state_of x.room (rested_by wait va)) (state_of r (rested_by wait wa)) rested);
        } in
        let drawn_main : CalledTwins (after_wait code x va asked) (after_wait code (in_room r x) (random_taken_for r.transaction.delay w) asked) =
        subst (λ (l : ℕ). CalledTwins (after_wait code x va asked) (after_wait code (in_room r x) (random_taken_for l w) asked)) same_longest main in
        subst (λ (m : ℕ). CalledTwins (after_wait code x va asked) (after_wait code (in_room r x) (random_taken_for r.transaction.delay w) m)) same drawn_main

    ended_twins : (func : Func) (code : Code) (authenticated opened : Option KeptAnswers) (pending : Option Pending) (x : PlainHandle) (r : PlainRoom) (s u : State) → Both s u
        → CalledTwins (finished delay func (went code (held authenticated opened pending) s) x) (finished delay func (went code (held authenticated opened pending) u) (in_room r x))
    ended_twins Authenticate code authenticated opened None x r s u t =
        waited_twins code (record x { room = s.room; authenticated = authenticated; opened = opened; pending = None }) u.room s.world u.world t
    ended_twins Authenticate code authenticated opened (Some p) x r s u t = record { rest = refl; state = t }
    ended_twins ChAuthTok code authenticated opened None x r s u t =
        record { rest = refl; state = no_request (record s { room = without_its_tokens s.room }) (record u { room = without_its_tokens u.room }) (no_tokens s u t) }
    ended_twins ChAuthTok code authenticated opened (Some p) x r s u t = record { rest = refl; state = t }
    ended_twins func code authenticated opened None x r s u t = record { rest = refl; state = no_request s u t }
    ended_twins func code authenticated opened (Some p) x r s u t = record { rest = refl; state = t }

    went_twins : (func : Func) (x : PlainHandle) (r : PlainRoom) (a b : Went State) → WentAlike Both a b
        → CalledTwins (finished delay func a x) (finished delay func b (in_room r x))
    went_twins func x r a b both =
        subst (λ (c : Code). CalledTwins (finished delay func a x) (finished delay func (went c b.held b.state) (in_room r x))) both.code
        (subst (λ (k : Held). CalledTwins (finished delay func a x) (finished delay func (went a.code k b.state) (in_room r x))) both.held
        (ended_twins func a.code a.held.authenticated a.held.opened a.held.pending x r a.state b.state both.state))

    -- a stack call, on a transaction in two rooms
    pub stack_call_goes : (players : List Player) (func : Func) (flags : ℕ) (x : PlainHandle) (r : PlainRoom) (v w : PlainWorld) → Both (state_of x.room v) (state_of r w)
        → CalledTwins (stack_call players delay func flags x v) (stack_call players delay func flags (in_room r x) w)
    stack_call_goes players func flags x r v w t =
        let y : PlainHandle = in_room r x in
        either_twins (is_refused_for_flags func flags) (is_other_pending x.pending func) (called codes.SystemErr x v) (called codes.SystemErr y w)
        (called codes.Abort x v) (called codes.Abort y w) (finished delay func (passes_of players func flags x v) x) (finished delay func (passes_of players func flags y w) y)
        (record { rest = refl; state = t }) (record { rest = refl; state = t })
        (went_twins func x r (passes_of players func flags x v) (passes_of players func flags y w)
        (passes_go_alike Both (asking_by players flags) x.stacks func (passed_twins players flags x.stacks func) (held_in x) (state_of (room_begun func x) v) (state_of (room_begun func y) w)
        (begun_twins (clears_tokens func) x.pending (state_of x.room v) (state_of r w) t)))
