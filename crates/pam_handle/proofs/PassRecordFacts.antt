-- One record of what the passes of a call give and leave, from those of each pass.
use Rattle.std.proofs.Common.{◌≡◌, ℕ, Bool, true, false, IsTrue, List, length, Option, Some, None, Result, Ok, Err, IfOk, OnErr, refl, sym, ◌∙◌, ap, subst}
use Rattle.pam_base.specs.declared.code.Code.{Code}
use Rattle.pam_base.specs.declared.call.Func.{Func}
use Rattle.pam_base.specs.declared.call.Func.TheVariants.{Authenticate, SetCred, AcctMgmt, OpenSession, CloseSession, ChAuthTok}
use Rattle.pam_base.specs.declared.fault.NoMemory.{NoMemory}
use Rattle.frozen_chain.specs.Kept.{Answers}
use Rattle.dispatch_core.specs.declared.request.PassRequest.{PassRequest}
use Rattle.dispatch_core.specs.AnyWorld.{GoesSoundly}
use Rattle.dispatch_core.specs.AnswersSoFar.{past_of}
use Rattle.dispatch_core.specs.Calls as calls
use Rattle.dispatch_core.specs.Calls.{Held, following, held, went}
use Rattle.dispatch_core.specs.Passes.{kept_failed}
use Rattle.dispatch_core.specs.Pending.{Pending, pending_after}
use Rattle.dispatch_core.specs.pam_room.specs.Module.{Player, notes_of}
use Rattle.dispatch_core.specs.pam_room.specs.State.{PlainRoom, PlainWorld}
use Rattle.dispatch_core.specs.service_load.specs.Stacks.{Stacks}
use Rattle.dispatch_core.specs.handler_chain.specs.Route.{KeptAnswers}
use Rattle.pam_handle.specs.AnyWorld.{LeavesAuthenticated, LeavesOpened, authenticated_failed, opened_failed}
use Rattle.pam_handle.specs.Around.{Around, CallSeen, all_tell, state_in}
use Rattle.pam_handle.specs.Handle.{PlainHandle, in_room}
use Rattle.pam_handle.specs.Pass.{PassesTo, kept_answers}
use Rattle.pam_handle.specs.Passes.{PassGives, PassesGive, authenticated_with, cached_of, first_request, is_followed, is_second, kind_of, opened_with, second_request}
use Rattle.pam_handle.specs.StackCalls.{asking_by, held_in}
use Rattle.pam_handle.specs.Stopping.{first_kept, passing}
use Rattle.pam_handle.proofs.AllPassesFacts.{first_passes, goes_once, goes_second, goes_twice, over as none_over}
use Rattle.pam_handle.proofs.OutOfMemoryFacts.{stops_once, stops_second, stops_twice}
use Rattle.pam_handle.proofs.CallTraceFacts.{trail_once, trail_second, trail_twice}

false_true : false ≡ true → ⊥
false_true e = (cc)

-- the transaction with other cached codes
abbrev pub swapped_in : Option KeptAnswers → Option KeptAnswers → CallSeen → CallSeen
swapped_in authenticated opened s = record s { handle = record s.handle { authenticated = authenticated; opened = opened } }

abbrev pub over : CallSeen → CallSeen → Type 0 → Type 0 → Type 0 → Around
over old new handle_is_kept world_is_kept nap_is_kept = record
    { old = old; new = new; handle_is_kept = handle_is_kept; world_is_kept = world_is_kept; nap_is_kept = nap_is_kept }

-- ---- what is cached

pub kept_of : (func : Func) (authenticated opened : Answers)
    → kept_answers (cached_of func authenticated opened None) ≡ cached_of func (kept_answers authenticated) (kept_answers opened) None
kept_of Authenticate authenticated opened = refl
kept_of func authenticated opened = refl

-- the cached codes that were swapped in before the first pass and out after it
with_authenticated : (h mid : PlainHandle) (room : PlainRoom) (before cached : Option KeptAnswers) → mid ≡ in_room room (record h { authenticated = before })
    → record mid { authenticated = cached } ≡ record h { room = room; authenticated = cached }
with_authenticated h mid room before cached e = ap (λ (k : PlainHandle). record k { authenticated = cached }) e

with_opened : (h mid : PlainHandle) (room : PlainRoom) (before cached : Option KeptAnswers) → mid ≡ in_room room (record h { opened = before })
    → record mid { opened = cached } ≡ record h { room = room; opened = cached }
with_opened h mid room before cached e = ap (λ (k : PlainHandle). record k { opened = cached }) e

-- `a`, `o` are the cached codes of the transaction, `c`, `d` those after the pass
pub swapped : (func : Func) (h mid : PlainHandle) (room : PlainRoom) (a o c d start kept : Answers)
    → h.authenticated ≡ kept_answers a → h.opened ≡ kept_answers o → mid.authenticated ≡ kept_answers c → mid.opened ≡ kept_answers d
    → mid ≡ in_room room (record h { authenticated = kept_answers (authenticated_with func start a); opened = kept_answers (opened_with func start o) })
    → record mid { authenticated = kept_answers (authenticated_with func kept c); opened = kept_answers (opened_with func kept d) }
    ≡ record h {
      room = room;
      authenticated = authenticated_with func (kept_answers kept) h.authenticated;
      opened = opened_with func
          (kept_answers kept) h.opened;
    }
swapped Authenticate h mid room a o c d start kept ea eo ec ed e = rw (← ed) (with_authenticated h mid room (kept_answers start) (kept_answers kept) (rw eo e))
swapped SetCred h mid room a o c d start kept ea eo ec ed e = rw (← ed) (with_authenticated h mid room (kept_answers start) (kept_answers kept) (rw eo e))
swapped AcctMgmt h mid room a o c d start kept ea eo ec ed e = rw (← ec, ← ed) (rw (ea, eo) e)
swapped OpenSession h mid room a o c d start kept ea eo ec ed e = rw (← ec) (with_opened h mid room (kept_answers start) (kept_answers kept) (rw ea e))
swapped CloseSession h mid room a o c d start kept ea eo ec ed e = rw (← ec) (with_opened h mid room (kept_answers start) (kept_answers kept) (rw ea e))
swapped ChAuthTok h mid room a o c d start kept ea eo ec ed e = rw (← ec, ← ed) (rw (ea, eo) e)

leaves_authenticated : (func : Func) (cached old : Option KeptAnswers) → LeavesAuthenticated func old (authenticated_with func cached old)
leaves_authenticated Authenticate cached old = tt
leaves_authenticated SetCred cached old = tt
leaves_authenticated func cached old = refl

leaves_opened : (func : Func) (cached old : Option KeptAnswers) → LeavesOpened func old (opened_with func cached old)
leaves_opened OpenSession cached old = tt
leaves_opened CloseSession cached old = tt
leaves_opened func cached old = refl

-- a pass that uses cached return codes, if there are any, leaves them if memory runs out
followed_failed : (cells kept : Answers) → kept ≡ kept_failed (following (kept_answers cells)) cells → kept_answers kept ≡ kept_answers cells
followed_failed None kept e = ap kept_answers e
followed_failed (Some cells) kept e = ap kept_answers e

authenticated_after : (func : Func) (h : Held) (cells kept : Answers) → kept_answers cells ≡ first_kept func h
    → kept ≡ kept_failed (kind_of func (kept_answers cells)) cells
    → authenticated_with func (kept_answers kept) h.authenticated ≡ authenticated_failed func h.authenticated
authenticated_after Authenticate h cells kept own e = ap kept_answers e
authenticated_after SetCred h cells kept own e = followed_failed cells kept e ∙ own
authenticated_after func h cells kept own e = refl

opened_after : (func : Func) (h : Held) (cells kept : Answers) → kept_answers cells ≡ first_kept func h
    → kept ≡ kept_failed (kind_of func (kept_answers cells)) cells
    → opened_with func (kept_answers kept) h.opened ≡ opened_failed func h.opened
opened_after OpenSession h cells kept own e = ap kept_answers e
opened_after CloseSession h cells kept own e = followed_failed cells kept e ∙ own
opened_after func h cells kept own e = refl

-- ---- the first pass alone

-- `s` is seen before the call, `t` after the pass and `n` after the call; in the pass the cached codes of the
-- transaction are others
module _ (func : Func) (flags : ℕ) (first : Answers) (past : List Code) (paused : Option (List Code)) (s t n : CallSeen) (x y : Option KeptAnswers)
    (J L N M O : Type 0)
    (request : PassRequest) (cells kept : Answers) (begins : is_second func first ≡ false) (own : kept_answers cells ≡ first_kept func (held_in s.handle))
    (asks : request ≡ first_request func flags (kept_answers cells)) where
  abbrev Gives : PassRequest → Result Code NoMemory → Type 0
  Gives r result = PassGives r cells kept past paused result (over (swapped_in x y s) t J L N)

  first_told : (code : Code) → Gives request (Ok code) → IsTrue (all_tell s)
      → PassesTo (calls.first_pass (asking_by s.players flags) s.handle.stacks func past (held_in s.handle) (state_in s)) code (kept_answers kept) paused
      (state_in t)
  first_told code g told =
      let e : Gives (first_request func flags (kept_answers cells)) (Ok code) = subst (λ (r : PassRequest). Gives r (Ok code)) asks g in
      first_passes (asking_by s.players flags) s.handle.stacks func past (held_in s.handle) (state_in s) (state_in t) code (kept_answers kept) paused
      (rw own at (e.told told))

  abbrev begun : Pending
  begun = record { func = func; past = past; first = kept_answers first }

  abbrev new_handle : PlainHandle
  new_handle = record s.handle {
    room = t.handle.room;
    authenticated = authenticated_with func
        (kept_answers kept) s.handle.authenticated;
    opened = opened_with func (kept_answers kept) s.handle.opened;
  }

  abbrev new_seen : CallSeen
  new_seen = record n { handle = new_handle; world = t.world }

  -- the transaction and the world after the call
  given : (result : Result Code NoMemory) (later : Option KeptAnswers) → n.handle ≡ new_handle → n.world ≡ t.world
      → PassesGive flags begun later paused result (over s new_seen M L O) → PassesGive flags begun later paused result (over s n M L O)
  given result later is same g =
      subst (λ (k : PlainHandle). PassesGive flags begun later paused result (over s (record n { handle = k }) M L O)) (sym is)
      (subst (λ (w : PlainWorld). PassesGive flags begun later paused result (over s (record n { handle = new_handle; world = w }) M L O)) (sym same) g)

  pub give_once : (code : Code) (later : Option KeptAnswers) → is_followed func code ≡ false → later ≡ None → n.handle ≡ new_handle → n.world ≡ t.world
      → Gives request (Ok code)
      → PassesGive flags begun later paused (Ok code) (over s n M L O)
  give_once code later last none is same g =
      let e : Gives (first_request func flags (kept_answers cells)) (Ok code) = subst (λ (r : PassRequest). Gives r (Ok code)) asks g in
      given (Ok code) later is same
      (subst (λ (l : Option KeptAnswers). PassesGive flags begun l paused (Ok code) (over s new_seen M L O)) (sym none)
      (record {
        told = λ told. goes_once (asking_by s.players flags) s.handle.stacks func past first (held_in s.handle) (state_in s) (state_in t) code
            (kept_answers kept) paused begins last (first_told code g told);
        by_trail = trail_once s.handle.stacks func past first (held_in s.handle) s.handle.room.transaction.trail t.handle.room.transaction.trail code
            (kept_answers kept) paused begins last (rw own at e.by_trail);
        put_off = g.put_off;
        paused = tt;
        stopped = tt;
        authenticated = tt;
        opened = tt;
        leaves_authenticated = leaves_authenticated func (kept_answers kept) s.handle.authenticated;
        leaves_opened = leaves_opened func (kept_answers kept) s.handle.opened;
        others = refl;
      }))

  pub give_none : (none : NoMemory) (later : Option KeptAnswers) → n.handle ≡ new_handle → n.world ≡ t.world → Gives request (Err none)
      → PassesGive flags begun later paused (Err none) (over s n M L O)
  give_none none later is same g =
      let e : Gives (first_request func flags (kept_answers cells)) (Err none) = subst (λ (r : PassRequest). Gives r (Err none)) asks g in
      given (Err none) later is same
      (record {
        told = λ told. tt;
        by_trail = tt;
        put_off = tt;
        paused = g.paused;
        stopped = stops_once (Err none) func flags first past (passing (over s new_seen M L O)) begins (rw own at e.stopped);
        authenticated = authenticated_after func (held_in s.handle) cells kept own e.kept;
        opened = opened_after func (held_in s.handle) cells kept own e.kept;
        leaves_authenticated = leaves_authenticated func (kept_answers kept) s.handle.authenticated;
        leaves_opened = leaves_opened func (kept_answers kept) s.handle.opened;
        others = refl;
      })

-- ---- the second pass of a change of token

if_ok : (result : Result Code NoMemory) (P Q : Code → Type 0) → ((code : Code) → P code → Q code) → IfOk result P → IfOk result Q
if_ok (Ok code) P Q f p = f code p
if_ok (Err none) P Q f p = tt

pub on_err : (result : Result Code NoMemory) {P : Type 0} → P → OnErr result P
on_err (Ok code) p = tt
on_err (Err none) p = p

-- a change of token that is resumed
pub give_second : (result : Result Code NoMemory) (func : Func) (flags : ℕ) (first kept : Answers) (past : List Code) (paused : Option (List Code))
    (room : PlainRoom) (s n : CallSeen) (M L O : Type 0) (request : PassRequest)
    → is_second func first ≡ true → request ≡ second_request flags → n.handle ≡ in_room room s.handle
    → PassGives request first kept past paused result (over s n M L O)
    → PassesGive flags (record { func = func; past = past; first = kept_answers first }) (kept_answers kept) paused result (over s n M L O)
give_second result ChAuthTok flags first kept past paused room s n M L O request is asks new_is g =
    let m : CallSeen = record n { handle = in_room room s.handle } in
    let e : PassGives (second_request flags) first kept past paused result (over s m M L O) =
    subst (λ (k : PlainHandle). PassGives (second_request flags) first kept past paused result (over s (record n { handle = k }) M L O)) new_is
    (subst (λ (r : PassRequest). PassGives r first kept past paused result (over s n M L O)) asks g) in
    subst (λ (k : PlainHandle). PassesGive flags (record { func = ChAuthTok; past = past; first = kept_answers first }) (kept_answers kept) paused result
    (over s (record n { handle = k }) M L O)) (sym new_is)
    (record {
      told = λ told. if_ok result
          (λ code. PassesTo (calls.second_pass (asking_by s.players flags) s.handle.stacks (kept_answers first) past (state_in s)) code
          (kept_answers kept) paused (state_in m))
          (λ code. calls.call_after (asking_by s.players flags) s.handle.stacks ChAuthTok past (kept_answers first) (held_in s.handle)
          (state_in s) ≡ went code (held s.handle.authenticated s.handle.opened (pending_after ChAuthTok (kept_answers kept) paused)) (state_in m))
          (λ code p. goes_second (asking_by s.players flags) s.handle.stacks ChAuthTok past first (held_in s.handle) (state_in s) (state_in m) code
          (kept_answers kept) paused is p) (e.told told);
      by_trail = trail_second result s.handle.stacks ChAuthTok past first (held_in s.handle) s.handle.room.transaction.trail room.transaction.trail
          (kept_answers kept) paused is e.by_trail;
      put_off = e.put_off;
      paused = e.paused;
      stopped = stops_second result ChAuthTok flags first past (passing (over s m M L O)) is e.stopped;
      authenticated = on_err result refl;
      opened = on_err result refl;
      leaves_authenticated = refl;
      leaves_opened = refl;
      others = refl;
    })
give_second result func flags first kept past paused room s n M L O request is asks new_is g = absurd (false_true is)

-- a pass in a transaction with the stacks of another one, and with the same modules
module _ (request : PassRequest) (cells later : Answers) (past : List Code) (paused : Option (List Code)) (result : Result Code NoMemory) (s t n : CallSeen)
    (x y : Option KeptAnswers) (J L N : Type 0) where
  abbrev still : List Player → Bool → Bool → Stacks → CallSeen
  still players tells world_tells stacks = swapped_in x y
      (record t { players = players; tells = tells; world_tells = world_tells; handle = record t.handle { stacks = stacks } })

  abbrev GivesStill : List Player → Bool → Bool → Stacks → Type 0
  GivesStill players tells world_tells stacks = PassGives request cells later past paused result (over (still players tells world_tells stacks) n J L N)

  pub gives_still : t.players ≡ s.players → t.tells ≡ s.tells → t.world_tells ≡ s.world_tells → t.handle.stacks ≡ s.handle.stacks
      → PassGives request cells later past paused result (over (swapped_in x y t) n J L N) → GivesStill s.players s.tells s.world_tells s.handle.stacks
  gives_still a b c d g =
      subst (λ (k : Stacks). GivesStill s.players s.tells s.world_tells k) d
      (subst (λ (k : Bool). GivesStill s.players s.tells k t.handle.stacks) c
      (subst (λ (k : Bool). GivesStill s.players k t.world_tells t.handle.stacks) b
      (subst (λ (k : List Player). GivesStill k t.tells t.world_tells t.handle.stacks) a g)))

-- after the first pass: `own` are the codes that it has cached; `t` is seen after it, and `n` after the call
pub give_twice : (result : Result Code NoMemory) (func : Func) (flags : ℕ) (first cells kept own later : Answers) (past : List Code)
    (paused new_held : Option (List Code)) (room : PlainRoom) (s t n : CallSeen) (x y p q : Option KeptAnswers)
    (J L N M O I K H R : Type 0) (request again : PassRequest) (c d : Answers) (code : Code)
    → is_second func first ≡ false → is_followed func code ≡ true → kept_answers cells ≡ first_kept func (held_in s.handle)
    → request ≡ first_request func flags (kept_answers cells)
    → own ≡ cached_of func c d kept → again ≡ second_request flags
    → n.handle ≡ record s.handle {
      room = room;
      authenticated = authenticated_with func (kept_answers kept) s.handle.authenticated;
      opened = opened_with func
          (kept_answers kept) s.handle.opened;
    }
    → GoesSoundly (notes_of s.players) (length s.players) s.handle.room.transaction t.handle.room.transaction s.world.process t.world.process
    → (K → n.world ≡ t.world) → t.players ≡ s.players → t.tells ≡ s.tells → t.world_tells ≡ s.world_tells → t.handle.stacks ≡ s.handle.stacks
    → PassGives request cells kept past paused (Ok code) (over (swapped_in x y s) t J L N)
    → PassGives again own later (past_of paused) new_held result (over (swapped_in p q t) n I K H)
    → PassesGive flags (record { func = func; past = past; first = kept_answers first }) (kept_answers later) new_held result (over s n M R O)
give_twice result ChAuthTok flags first cells kept own later past paused new_held room s t n x y p q J L N M O I K H R request again c d code begins follows
    hold asks own_is asks_again is sound same players tells world_tells stacks g e =
    let over_is : paused ≡ None = none_over ChAuthTok code paused follows g.put_off in
    let checked : IsTrue (all_tell s) → PassesTo
    (calls.first_pass (asking_by s.players flags) s.handle.stacks ChAuthTok past (held_in s.handle) (state_in s)) code (kept_answers kept) paused
    (state_in t) =
    first_told ChAuthTok flags first past paused s t n x y J L N M O request cells kept begins hold asks code g in
    let one : PassGives (first_request ChAuthTok flags (kept_answers cells)) cells kept past paused (Ok code) (over (swapped_in x y s) t J L N) =
    subst (λ (r : PassRequest). PassGives r cells kept past paused (Ok code) (over (swapped_in x y s) t J L N)) asks g in
    let m : CallSeen = record n { handle = in_room room s.handle } in
    let second : PassGives (second_request flags) kept later (past_of paused) new_held result (over (swapped_in p q t) m I K H) =
    subst (λ (k : PlainHandle). PassGives (second_request flags) kept later (past_of paused) new_held result
    (over (swapped_in p q t) (record n { handle = k }) I K H)) is
    (subst (λ (r : PassRequest). PassGives r kept later (past_of paused) new_held result (over (swapped_in p q t) n I K H)) asks_again
    (subst (λ (k : Answers). PassGives again k later (past_of paused) new_held result (over (swapped_in p q t) n I K H)) own_is e)) in
    let two = gives_still (second_request flags) kept later (past_of paused) new_held result s t m p q I K H players tells world_tells stacks second in
    subst (λ (k : PlainHandle). PassesGive flags (record { func = ChAuthTok; past = past; first = kept_answers first }) (kept_answers later) new_held result
    (over s (record n { handle = k }) M R O)) (sym is)
    (record {
      told = λ told. if_ok result
          (λ k. PassesTo (calls.second_pass (asking_by s.players flags) s.handle.stacks (kept_answers kept) (past_of paused) (state_in t)) k
          (kept_answers later) new_held (state_in m))
          (λ k. calls.call_after (asking_by s.players flags) s.handle.stacks ChAuthTok past (kept_answers first) (held_in s.handle) (state_in s) ≡ went k
          (held s.handle.authenticated s.handle.opened (pending_after ChAuthTok (kept_answers later) new_held)) (state_in m))
          (λ k r. goes_twice (asking_by s.players flags) s.handle.stacks ChAuthTok past first (held_in s.handle) (state_in s) (state_in t) (state_in m) code k
          (kept_answers kept) (kept_answers later) paused new_held begins follows over_is (checked told) r) (two.told told);
      by_trail = trail_twice result s.handle.stacks ChAuthTok past first
          (held_in s.handle) s.handle.room.transaction.trail t.handle.room.transaction.trail room.transaction.trail code (kept_answers kept)
          (kept_answers later) paused new_held begins follows over_is (rw hold at one.by_trail) two.by_trail;
      put_off = two.put_off;
      paused = two.paused;
      stopped = stops_twice result ChAuthTok flags first past (passing (over s m M R O)) code (kept_answers kept) paused
          (state_in t) K begins follows over_is checked sound same two.stopped;
      authenticated = on_err result refl;
      opened = on_err result refl;
      leaves_authenticated = refl;
      leaves_opened = refl;
      others = refl;
    })
give_twice result func flags first cells kept own later past paused new_held room s t n x y p q J L N M O I K H R request again c d code begins follows hold
    asks own_is asks_again is sound same players tells world_tells stacks g e = absurd (false_true follows)
