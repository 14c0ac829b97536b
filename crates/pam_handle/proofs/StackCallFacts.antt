-- The result of a stack call, from what its passes give and what is done before and after them.
use Rattle.std.proofs.Common.{◌≡◌, ℕ, ◌≤◌, List, Option, Some, None, Result, Ok, Err, IfOk, OnErr, Bool, true, false, if◌then◌else◌, is_some, IsTrue, refl, sym, ◌∙◌, ap, subst, arith}
use Rattle.std.specs.Prelude.{IfNone}
use Rattle.pam_base.specs.declared.code.Code.{Code}
use Rattle.pam_base.specs.declared.code.Code.TheVariants.{Abort, SystemErr, Incomplete}
use Rattle.pam_base.specs.declared.call.Func.{Func}
use Rattle.pam_base.specs.declared.call.Func.TheVariants.{Authenticate, SetCred, AcctMgmt, OpenSession, CloseSession, ChAuthTok}
use Rattle.pam_base.specs.declared.fault.NoMemory.{NoMemory}
use Rattle.item_store.specs.Items.{ItemTexts}
use Rattle.data_cleanup.specs.Cleanup.{Notes}
use Rattle.dispatch_core.specs.AnyWorld.{GoesSoundly}
use Rattle.dispatch_core.specs.Calls as calls
use Rattle.dispatch_core.specs.Calls.{Went, held, went}
use Rattle.dispatch_core.specs.Pending.{Pending, first_in, is_other_pending, past_in, pending_after}
use Rattle.dispatch_core.specs.pam_room.specs.Module.{Player}
use Rattle.dispatch_core.specs.pam_room.specs.State.{PlainProcess, PlainRoom, PlainWorld, State, state_of}
use Rattle.dispatch_core.specs.handler_chain.specs.Route.{KeptAnswers}
use Rattle.pam_handle.specs.declared.wait.Wait.{Wait}
use Rattle.pam_handle.specs.AnyWorld.{ClearsTokens, FailsAs, LeavesAuthenticated, LeavesOpened, LeavesOthers, LeavesPending, LeavesWait, RunsSoundly, authenticated_failed, opened_failed}
use Rattle.pam_handle.specs.Call.{Called, CallsAs, WaitsAfter, called, code_waited, items_after, items_before, items_begun, request_after, room_with}
use Rattle.pam_handle.specs.Handle.{PlainHandle}
use Rattle.pam_handle.specs.StackCalls.{asking_by, finished, is_refused_for_flags, passes_of, room_begun, stack_call}
use Rattle.pam_handle.specs.Stopping.{room_failed}
use Rattle.pam_handle.proofs.CallTraceFacts.{goes_after}
use Rattle.pam_handle.proofs.AuthenticationWaitFacts.{waited_after, waits_for_none}

false_true : false ≡ true → ⊥
false_true e = (cc)

-- after the last pass of a call: the tokens are cleared, if it clears them, and the requested delay is dropped, unless
-- it is incomplete
abbrev pub room_end : Func → Option (List Code) → PlainRoom → PlainRoom
room_end func paused r = request_after paused (room_with (items_after func paused r.transaction.items) r)

pub room_start : (func : Func) (h : PlainHandle) (items : ItemTexts) → items ≡ items_before func h.pending h.room.transaction.items → room_with items h.room ≡ room_begun func h
room_start func h items e = ap (λ (i : ItemTexts). room_with i h.room) e

-- ---- a call is what its passes give, and what it does after them

third : {A : Type 0} (a b : Bool) (x y z : A) → a ≡ false → b ≡ false → (if a then x else if b then y else z) ≡ z
third false false x y z e f = refl
third false true x y z e f = absurd (false_true (sym f))
third true b x y z e f = absurd (false_true (sym e))

second : {A : Type 0} (a b : Bool) (x y z : A) → a ≡ false → b ≡ true → (if a then x else if b then y else z) ≡ y
second false true x y z e f = refl
second false false x y z e f = absurd (false_true f)
second true b x y z e f = absurd (false_true (sym e))

module _ (players : List Player) (number : Code → ℕ → ℕ) (func : Func) (flags : ℕ) (h : PlainHandle) (w : PlainWorld) where
  -- a call that is neither refused nor aborted
  pub call_ends : is_refused_for_flags func flags ≡ false → is_other_pending h.pending func ≡ false
      → stack_call players number func flags h w ≡ finished number func (passes_of players func flags h w) h
  call_ends free other = third (is_refused_for_flags func flags) (is_other_pending h.pending func) _ _ _ free other

  -- a call that is refused for its flags, or aborted
  pub call_refused : is_refused_for_flags func flags ≡ true → stack_call players number func flags h w ≡ called SystemErr h w
  call_refused e = rw e refl

  pub call_aborted : is_refused_for_flags func flags ≡ false → is_other_pending h.pending func ≡ true → stack_call players number func flags h w ≡ called Abort h w
  call_aborted free e = second (is_refused_for_flags func flags) (is_other_pending h.pending func) _ _ _ free e

-- ---- what is left after a call

-- a call that doesn't wait
quiet : (func : Func) (h : PlainHandle) (room : PlainRoom) (a o : Option KeptAnswers) (pending : Option Pending) (waited : Option Wait) (code : Code) (mid last : PlainWorld) → last ≡ mid → waited ≡ h.waited
    → CallsAs (called code (record h { room = room; authenticated = a; opened = o; pending = pending }) mid) code (record h { room = room; authenticated = a; opened = o; pending = pending; waited = waited }) last
quiet func h room a o pending waited code mid last rests stays = record {
  code_is = refl;
  handle_is = ap (λ (x : Option Wait). record h { room = room; authenticated = a; opened = o; pending = pending; waited = x }) stays;
  world_is = rests;
}

-- the transaction and the world after it
finishes_as : (number : Code → ℕ → ℕ) (func : Func) (h : PlainHandle) (room : PlainRoom) (later : Option KeptAnswers) (paused : Option (List Code)) (a o : Option KeptAnswers) (waited : Option Wait) (code : Code) (mid last : PlainWorld) (longest : ℕ) (ended : Option Code)
    → longest ≡ room.transaction.delay → ended ≡ code_waited func paused (Ok code)
    → (func ≡ Authenticate → WaitsAfter number ended longest h.delay_on h.waited mid waited last) → IfNone ended (last ≡ mid) → IfNone ended (waited ≡ h.waited)
    → CallsAs (finished number func (went code (held a o (pending_after func later paused)) (state_of room mid)) h) code
    (record h { room = room_end func paused room; authenticated = a; opened = o; pending = pending_after func later paused; waited = waited }) last
finishes_as number Authenticate h room later None a o waited code mid last longest ended l is waits rests stays =
    waited_after number code (record h { room = room; authenticated = a; opened = o; pending = None }) mid last longest waited l
    (subst (λ (x : Option Code). WaitsAfter number x longest h.delay_on h.waited mid waited last) is (waits refl))
finishes_as number Authenticate h room later (Some past) a o waited code mid last longest ended l is waits rests stays = quiet Authenticate h (room_end Authenticate (Some past) room) a o (pending_after Authenticate later (Some past)) waited code mid last (rw is at rests) (rw is at stays)
finishes_as number func h room later None a o waited code mid last longest ended l is waits rests stays = quiet func h (room_end func None room) a o None waited code mid last (rw is at rests) (rw is at stays)
finishes_as number func h room later (Some past) a o waited code mid last longest ended l is waits rests stays = quiet func h (room_end func (Some past) room) a o (pending_after func later (Some past)) waited code mid last (rw is at rests) (rw is at stays)

pub told_as : (result : Result Code NoMemory) (players : List Player) (number : Code → ℕ → ℕ) (func : Func) (flags : ℕ) (h new : PlainHandle) (w : PlainWorld) (given : List Code) (first later : Option KeptAnswers) (q : Option Pending) (items : ItemTexts)
    (room : PlainRoom) (paused : Option (List Code)) (authenticated opened : Option KeptAnswers) (waited : Option Wait) (mid last : PlainWorld) (longest : ℕ) (ended : Option Code)
    → is_refused_for_flags func flags ≡ false → is_other_pending h.pending func ≡ false → given ≡ past_in h.pending → first ≡ first_in h.pending → items ≡ items_before func h.pending h.room.transaction.items
    → longest ≡ room.transaction.delay → ended ≡ code_waited func paused result
    → (func ≡ Authenticate → WaitsAfter number ended longest h.delay_on h.waited mid waited last) → IfNone ended (last ≡ mid) → IfNone ended (waited ≡ h.waited)
    → new ≡ record h { room = room_end func paused room; authenticated = authenticated; opened = opened; pending = pending_after func later paused; waited = waited }
    → IfOk result (λ code. calls.call_after (asking_by players flags) h.stacks func given first (held h.authenticated h.opened q) (state_of (room_with items h.room) w)
    ≡ went code (held authenticated opened (pending_after func later paused)) (state_of room mid))
    → IfOk result (λ code. CallsAs (stack_call players number func flags h w) code new last)
told_as (Err none) players number func flags h new w given first later q items room paused a o waited mid last longest ended free other g f i l is waits rests stays n e = tt
told_as (Ok code) players number func flags h new w given first later q items room paused a o waited mid last longest ended free other g f i l is waits rests stays n e =
    let r : Went State = went code (held a o (pending_after func later paused)) (state_of room mid) in
    let goes : passes_of players func flags h w ≡ r =
    goes_after (asking_by players flags) h.stacks func given first q h (state_of (room_begun func h) w) g f
    ∙ ap (λ (t : ItemTexts). calls.call_after (asking_by players flags) h.stacks func given first (held h.authenticated h.opened q) (state_of (room_with t h.room) w)) (sym i) ∙ e in
    let same : stack_call players number func flags h w ≡ finished number func r h =
    call_ends players number func flags h w free other ∙ ap (λ (x : Went State). finished number func x h) goes in
    subst (λ (x : PlainHandle). CallsAs (stack_call players number func flags h w) code x last) (sym n)
    (subst (λ (c : Called). CallsAs c code (record h { room = room_end func paused room; authenticated = a; opened = o; pending = pending_after func later paused; waited = waited }) last) (sym same)
    (finishes_as number func h room later paused a o waited code mid last longest ended l is waits rests stays))

trail_end : (func : Func) (paused : Option (List Code)) (room : PlainRoom) → (room_end func paused room).transaction.trail ≡ room.transaction.trail
trail_end func None room = refl
trail_end func (Some past) room = refl

pub trail_left : (func : Func) (paused : Option (List Code)) (room : PlainRoom) (mid new : PlainHandle) → new ≡ record mid { room = room_end func paused room } → new.room.transaction.trail ≡ room.transaction.trail
trail_left func paused room mid new n = ap (λ (k : PlainHandle). k.room.transaction.trail) n ∙ trail_end func paused room

-- ---- the other fields of its record

tokens_end : (func : Func) (room : PlainRoom) → ClearsTokens func (room_end func None room).transaction.items
tokens_end Authenticate room = (refl, refl)
tokens_end ChAuthTok room = (refl, refl)
tokens_end func room = tt

failed_room : (func : Func) (room : PlainRoom) → room_end func None room ≡ room_failed func room
failed_room Authenticate room = refl
failed_room func room = refl

none_waited : (func : Func) (past : List Code) (result : Result Code NoMemory) → code_waited func (Some past) result ≡ None
none_waited Authenticate past result = refl
none_waited func past result = refl

waits_none : (func : Func) (paused : Option (List Code)) (none : NoMemory) (ended : Option Code) (before after : Option Wait) → ended ≡ code_waited func paused (Err none) → IfNone ended (after ≡ before) → after ≡ before
waits_none func paused none ended before after is stays = subst (λ (x : Option Code). IfNone x (after ≡ before)) (is ∙ waits_for_none func paused none) stays

left_pending : (func : Func) (h : PlainHandle) (room : PlainRoom) (later : Option KeptAnswers) (paused : Option (List Code)) (a o : Option KeptAnswers) (waited : Option Wait) (code : Code) (ended : Option Code) → ended ≡ code_waited func paused (Ok code) → IfNone ended (waited ≡ h.waited)
    → h.room.transaction.delay ≤ room.transaction.delay → (IsTrue (is_some paused) → code ≡ Incomplete)
    → LeavesPending func code h (record h { room = room_end func paused room; authenticated = a; opened = o; pending = pending_after func later paused; waited = waited }) (pending_after func later paused)
left_pending func h room later None a o waited code ended is stays delay put_off = (refl, tokens_end func room)
left_pending func h room later (Some past) a o waited code ended is stays delay put_off = (refl, put_off refl, delay, subst (λ (x : Option Code). IfNone x (waited ≡ h.waited)) (is ∙ none_waited func past (Ok code)) stays)

leaves_wait : (func : Func) (h : PlainHandle) (room : PlainRoom) (a o : Option KeptAnswers) (pending : Option Pending) (waited : Option Wait) (ended : Option Code) (paused : Option (List Code)) (result : Result Code NoMemory) → ended ≡ code_waited func paused result → IfNone ended (waited ≡ h.waited)
    → LeavesWait func h (record h { room = room; authenticated = a; opened = o; pending = pending; waited = waited })
leaves_wait Authenticate h room a o pending waited ended paused result is stays = tt
leaves_wait func h room a o pending waited ended paused result is stays = subst (λ (x : Option Code). IfNone x (waited ≡ h.waited)) is stays

begun_service : (pending : Option Pending) (items : ItemTexts) → (items_begun pending items).service ≡ items.service
begun_service None items = refl
begun_service (Some p) items = refl

service_begun : (func : Func) (pending : Option Pending) (items : ItemTexts) → (items_before func pending items).service ≡ items.service
service_begun Authenticate pending items = begun_service pending items
service_begun ChAuthTok pending items = begun_service pending items
service_begun func pending items = refl

service_end : (func : Func) (paused : Option (List Code)) (room : PlainRoom) → (room_end func paused room).transaction.items.service ≡ room.transaction.items.service
service_end Authenticate None room = refl
service_end Authenticate (Some past) room = refl
service_end ChAuthTok None room = refl
service_end ChAuthTok (Some past) room = refl
service_end func None room = refl
service_end func (Some past) room = refl

-- what a call does before and after its passes changes nothing that has to stay
sound_end : (note : Notes) (modules : ℕ) (func : Func) (paused : Option (List Code)) (room start : PlainRoom) (items : ItemTexts) (a b : PlainProcess)
    → items.service ≡ start.transaction.items.service
    → GoesSoundly note modules (record start.transaction { items = items }) room.transaction a b
    → GoesSoundly note modules (record start.transaction { delay = 0 }) (room_end func paused room).transaction a b
sound_end note modules func None room start items a b e s = record {
  stays = record { handle = s.stays.handle; data_handle = s.stays.data_handle; service = service_end func None room ∙ s.stays.service ∙ e; delay = omega arith; said = s.stays.said; root = s.stays.root; caller = s.stays.caller };
  trail = s.trail;
  grows = s.grows;
}
sound_end note modules func (Some past) room start items a b e s = record {
  stays = record { handle = s.stays.handle; data_handle = s.stays.data_handle; service = service_end func (Some past) room ∙ s.stays.service ∙ e; delay = omega arith; said = s.stays.said; root = s.stays.root; caller = s.stays.caller };
  trail = s.trail;
  grows = s.grows;
}

module _ (func : Func) (h new : PlainHandle) (room : PlainRoom) (later : Option KeptAnswers) (paused : Option (List Code)) (a o : Option KeptAnswers) (waited : Option Wait)
    (n : new ≡ record h { room = room_end func paused room; authenticated = a; opened = o; pending = pending_after func later paused; waited = waited }) where
  pub leaves_pending : (result : Result Code NoMemory) (ended : Option Code) → ended ≡ code_waited func paused result → IfNone ended (waited ≡ h.waited) → h.room.transaction.delay ≤ room.transaction.delay
      → IfOk result (λ code. IsTrue (is_some paused) → code ≡ Incomplete) → IfOk result (λ code. LeavesPending func code h new new.pending)
  leaves_pending (Err none) ended is stays delay put_off = tt
  leaves_pending (Ok code) ended is stays delay put_off = subst (λ (x : PlainHandle). LeavesPending func code h x x.pending) (sym n) (left_pending func h room later paused a o waited code ended is stays delay put_off)

  pub fails_as : (result : Result Code NoMemory) (ended : Option Code) → ended ≡ code_waited func paused result → IfNone ended (waited ≡ h.waited) → OnErr result (paused ≡ None)
      → OnErr result (a ≡ authenticated_failed func h.authenticated) → OnErr result (o ≡ opened_failed func h.opened) → OnErr result (FailsAs func h new)
  fails_as (Ok code) ended is stays over ea eo = tt
  fails_as (Err none) ended is stays over ea eo =
      subst (λ (x : PlainHandle). FailsAs func h x) (sym (n ∙ ap (λ (q : Option (List Code)). record h { room = room_end func q room; authenticated = a; opened = o; pending = pending_after func later q; waited = waited }) over))
      (record { pending = refl; request = refl; authenticated = ea; opened = eo; tokens = tokens_end func room; waited = waits_none func paused none ended h.waited waited is stays; stacks = refl; names = refl; delay_on = refl })

  pub leaves_others : (ended : Option Code) (result : Result Code NoMemory) → ended ≡ code_waited func paused result → IfNone ended (waited ≡ h.waited)
      → LeavesAuthenticated func h.authenticated a → LeavesOpened func h.opened o → LeavesOthers func h new
  leaves_others ended result is stays la lo = subst (λ (x : PlainHandle). LeavesOthers func h x) (sym n) (record { authenticated = la; opened = lo; waited = leaves_wait func h (room_end func paused room) a o (pending_after func later paused) waited ended paused result is stays })

  pub runs_soundly : (note : Notes) (modules : ℕ) (items : ItemTexts) (before after : PlainProcess) → items ≡ items_before func h.pending h.room.transaction.items
      → GoesSoundly note modules (record h.room.transaction { items = items }) room.transaction before after → RunsSoundly note modules h new before after
  runs_soundly note modules items before after i s = subst (λ (x : PlainHandle). RunsSoundly note modules h x before after) (sym n)
      (record { stacks = refl; names = refl; delay_on = refl; goes = sound_end note modules func paused room h.room items before after (ap (λ (x : ItemTexts). x.service) i ∙ service_begun func h.pending h.room.transaction.items) s })

  pub stops_room : (result : Result Code NoMemory) → OnErr result (paused ≡ None) → OnErr result (new.room ≡ room_failed func room)
  stops_room (Ok code) over = tt
  stops_room (Err none) over = ap (λ (k : PlainHandle). k.room) n ∙ ap (λ (q : Option (List Code)). room_end func q room) over ∙ failed_room func room

-- ---- a call that is refused or aborted

pub not_false : (b : Bool) → b ≡ true → b ≡ false → ⊥
not_false b t f = false_true (sym f ∙ t)

-- an authentication isn't refused
pub not_refused : (func : Func) (flags : ℕ) → is_refused_for_flags func flags ≡ true → func ≡ Authenticate → ⊥
not_refused ChAuthTok flags e is = (cc)
not_refused func flags e is = false_true e

pub same_call : (c : Called) (h : PlainHandle) (w : PlainWorld) (code : Code) → c ≡ called code h w → CallsAs c code h w
same_call c h w code e = subst (λ (x : Called). CallsAs x code h w) (sym e) (record { code_is = refl; handle_is = refl; world_is = refl })

pub leaves_same : (func : Func) (h : PlainHandle) → LeavesOthers func h h
leaves_same Authenticate h = record { authenticated = tt; opened = refl; waited = tt }
leaves_same SetCred h = record { authenticated = tt; opened = refl; waited = refl }
leaves_same AcctMgmt h = record { authenticated = refl; opened = refl; waited = refl }
leaves_same OpenSession h = record { authenticated = refl; opened = tt; waited = refl }
leaves_same CloseSession h = record { authenticated = refl; opened = tt; waited = refl }
leaves_same ChAuthTok h = record { authenticated = refl; opened = refl; waited = refl }
