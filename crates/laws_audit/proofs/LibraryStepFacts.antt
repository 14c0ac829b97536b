-- A step of a library fits.
use Rattle.std.proofs.Common.{◌≡◌, ℕ, zero, suc, Bool, true, false, ◌&&◌, not, true≢false, eq-eqb, if◌then◌else◌, List, [], ◌∷◌, ◌++◌, map}
use Rattle.std.proofs.Common.{drop, slice_get, slice_set, Option, Some, None, Result, Ok, Err, refl, sym, ◌∙◌, ap, subst, append-nil}
use Rattle.std.specs.Option.{option_map}
use Rattle.std.specs.List.{flat_map}
use Rattle.std.proofs.lemmas.Option.{slice_get-map}
use Rattle.std.proofs.lemmas.List.{map-set}
use Rattle.pam_base.specs.declared.code.Code.{Code}
use Rattle.pam_base.specs.declared.code.Code.TheVariants as codes
use Rattle.pam_base.specs.Code.{number_of}
use Rattle.pam_base.specs.declared.call.Func.{Func}
use Rattle.pam_base.specs.declared.call.Func.TheVariants as funcs
use Rattle.pam_base.specs.declared.call.AppCall.{AppCall}
use Rattle.pam_base.specs.declared.call.AppCall.TheVariants as calls
use Rattle.pam_base.specs.declared.call.Step.{Step}
use Rattle.item_store.specs.Access.{is_refused as is_refused_item}
use Rattle.item_store.specs.declared.access.Access.TheVariants.{ApplicationSets, ApplicationGets}
use Rattle.env_list.specs.Environment.{is_refused as is_refused_text}
use Rattle.conv_port.specs.declared.message.Message.{Message}
use Rattle.conv_port.specs.Conv.{ConvState}
use Rattle.data_cleanup.specs.Ledger.{PlainLedger}
use Rattle.data_cleanup.specs.declared.datum.Birth.{Birth}
use Rattle.data_cleanup.specs.declared.receipt.Receipt.{Receipt}
use Rattle.data_cleanup.specs.declared.receipt.Filed.{Filed}
use Rattle.service_load.specs.FirstFault.{Counts, Stop}
use Rattle.pam_room.specs.Module.{Player}
use Rattle.pam_room.specs.State.{State, PlainWorld}
use Rattle.pam_room.specs.declared.visits.Visit.{Visit}
use Rattle.dispatch_core.specs.Lines.{names_of}
use Rattle.pam_handle.specs.declared.wait.Wait.{Wait}
use Rattle.service_load.specs.Stacks.{Stacks}
use Rattle.dispatch_core.specs.Pending.{Pending, same_func, is_other_pending, past_in, first_in}
use Rattle.pam_handle.specs.Handle.{PlainHandle}
use Rattle.pam_handle.specs.Items.{all_told as told_all}
use Rattle.pam_handle.specs.Start.{started_by, new_handle, stacks_under}
use Rattle.pam_handle.specs.Call.{Called}
use Rattle.pam_handle.specs.StackCalls.{stack_call, asking_by, held_in}
use Rattle.service_load.specs.Load.{loaded}
use Rattle.pam_library.specs.declared.outcome.Answer.{Answer}
use Rattle.pam_library.specs.declared.outcome.Answer.TheVariants as answers
use Rattle.pam_library.specs.Outcome.{PlainOutcome}
use Rattle.pam_library.specs.Slots.{PlainSlot, closed, opened, slot_at, with_slot}
use Rattle.pam_library.specs.SlotStep.{SlotStepped, filed_in, told_by, is_refused_for_flags, other_pending, unless_pending, stack_step}
use Rattle.pam_library.specs.SlotStep.{open_step, closed_step, slot_step, opened_by}
use Rattle.pam_library.specs.Step.{Stepped, stepped_at, stepped}
use Rattle.handler_chain.specs.Retell.{RecordedLine, Telling, telling}
use Rattle.report_lines.specs.Line.{ToldLine, told_visit, Shown, shows_bad_number, Command, starts, runs, sets_item, gets_item, puts_env, Block}
use Rattle.report_lines.specs.Line.{block_of, answered as answers_with}
use Rattle.dispatch_core.specs.Calls.{Held, nothing_held, Went, went, goes}
use Rattle.pass_replay.specs.Replay.{as_told}
use Rattle.session_audit.specs.Fits.{SlotLog, shut, running, place_at, with_place, visits_told, is_none, same_code, only_if}
use Rattle.session_audit.specs.Fits.{is_refused_change, past_call, at_call, after_result, with_after, after_at, after_block, fold_on}
use Rattle.session_audit.specs.Fits.{fold, aborted_by}
use Rattle.session_audit.specs.Sound.{Asks, IsSound, AreSound}
use Rattle.session_audit.specs.Laws.{Retold}
use Rattle.session_audit.proofs.ReplayedCallFacts.{calls_are_retold}
use Rattle.session_audit.proofs.Quiet.{nothing_is_retold}
use Rattle.laws_audit.specs.Calls.{seen_of, trail_in, GoesAs}
use Rattle.laws_audit.specs.Report.{message_told, visit_told, missing_told, variable_told, receipt_told, filed_told, cleanups_told}
use Rattle.laws_audit.specs.Report.{waited_told, variables_told, all_told, command_of, shown_of, blocks_by, reported}
use Rattle.laws_audit.specs.Step.{place_of, places_of, HasStacks, HaveStacks, StepsFit}
use Rattle.laws_audit.proofs.LibraryCallFacts.{library_calls_go}
use Rattle.laws_audit.proofs.CallTraceFacts.{trails}

-- ---- the lines run that a block reports

visits_of-append : (one two : List ToldLine) → visits_told (one ++ two) ≡ visits_told one ++ visits_told two
visits_of-append [] two = refl
visits_of-append (told_visit v ∷ one) two = ap (λ (vs : List RecordedLine). v ∷ vs) (visits_of-append one two)
visits_of-append (t ∷ one) two = visits_of-append one two

messages_visits : (said : List Message) → visits_told (map message_told said) ≡ []
messages_visits [] = refl
messages_visits (m ∷ said) = messages_visits said

visits_visits : (trail : List Visit) → visits_told (map visit_told trail) ≡ map seen_of trail
visits_visits [] = refl
visits_visits (v ∷ trail) = ap (λ (vs : List RecordedLine). seen_of v ∷ vs) (visits_visits trail)

receipt_visits : (names : List (List ℕ)) (receipt : Receipt) (birth : Option Birth) (rest : List ToldLine)
    → visits_told (receipt_told names receipt birth ++ rest) ≡ visits_told rest
receipt_visits names receipt (Some birth) rest = refl
receipt_visits names receipt None rest = refl

pub filed_visits : (names : List (List ℕ)) (births : List Birth) (filed : List Filed) → visits_told (flat_map (filed_told names births) filed) ≡ []
filed_visits names births [] = refl
filed_visits names births (f ∷ fs) = receipt_visits names f.receipt (slice_get births f.receipt.id) (flat_map (filed_told names births) fs)
    ∙ filed_visits names births fs

waited_visits : (wait : Option Wait) → visits_told (waited_told wait) ≡ []
waited_visits (Some wait) = refl
waited_visits None = refl

missing_visits : (names : List (List ℕ)) → visits_told (map missing_told names) ≡ []
missing_visits [] = refl
missing_visits (n ∷ names) = missing_visits names

variables_visits : (variables : List (List ℕ)) → visits_told (map variable_told variables) ≡ []
variables_visits [] = refl
variables_visits (v ∷ variables) = variables_visits variables

answer_visits : (answer : Answer) → visits_told (variables_told answer) ≡ []
answer_visits (answers.List variables) = variables_visits variables
answer_visits answer = refl

none_before : (one two : List ToldLine) (vs : List RecordedLine) → visits_told one ≡ [] → visits_told two ≡ vs → visits_told (one ++ two) ≡ vs
none_before one two vs is there = visits_of-append one two ∙ ap (λ (xs : List RecordedLine). xs ++ visits_told two) is ∙ there

pub block_visits : (names : List (List ℕ)) (outcome : PlainOutcome) (ledger : PlainLedger)
    → visits_told (all_told names outcome ledger) ≡ map seen_of outcome.trail
block_visits names outcome ledger =
    none_before (map message_told outcome.said) _ _ (messages_visits outcome.said)
    (visits_of-append (map visit_told outcome.trail) _
    ∙ ap (λ (xs : List RecordedLine). xs ++ visits_told (cleanups_told names ledger outcome.filed_from
    ++ (waited_told outcome.wait ++ (map missing_told outcome.missing ++ variables_told outcome.answer)))) (visits_visits outcome.trail)
    ∙ ap (λ (xs : List RecordedLine). map seen_of outcome.trail ++ xs)
    (none_before (cleanups_told names ledger outcome.filed_from) _ [] (filed_visits names ledger.births (drop outcome.filed_from ledger.filed))
    (none_before (waited_told outcome.wait) _ [] (waited_visits outcome.wait)
    (none_before (map missing_told outcome.missing) _ [] (missing_visits outcome.missing) (answer_visits outcome.answer))))
    ∙ append-nil (map seen_of outcome.trail))

-- ---- places

pub place_at-of : (slots : List PlainSlot) (number : ℕ) → place_at (places_of slots) number ≡ option_map place_of (slot_at slots number)
place_at-of slots zero = refl
place_at-of slots (suc i) = slice_get-map place_of slots i

pub with_place-of : (slots : List PlainSlot) (number : ℕ) (slot : PlainSlot)
    → with_place (places_of slots) number (place_of slot) ≡ places_of (with_slot slots number slot)
with_place-of slots zero slot = refl
with_place-of slots (suc i) slot = sym (map-set place_of slots i slot)

set_same : (places : List SlotLog) (i : ℕ) (place : SlotLog) → slice_get places i ≡ Some place → slice_set places i place ≡ places
set_same [] i place is = refl
set_same (p ∷ places) zero place is = let same : Some p ≡ Some place = is in ap (λ (x : SlotLog). x ∷ places) (let e : place ≡ p = cc in e)
set_same (p ∷ places) (suc i) place is = ap (λ (xs : List SlotLog). p ∷ xs) (set_same places i place is)

with_same : (places : List SlotLog) (number : ℕ) (place : SlotLog) → place_at places number ≡ Some place → with_place places number place ≡ places
with_same places zero place is = refl
with_same places (suc i) place is = set_same places i place is

-- ---- one call on one place

same_code-refl : (c : Code) → same_code c c ≡ true
same_code-refl c = eq-eqb (number_of c) (number_of c) refl

same_func-refl : (f : Func) → same_func f f ≡ true
same_func-refl funcs.Authenticate = refl
same_func-refl funcs.SetCred = refl
same_func-refl funcs.AcctMgmt = refl
same_func-refl funcs.OpenSession = refl
same_func-refl funcs.CloseSession = refl
same_func-refl funcs.ChAuthTok = refl

module _ (stacks : Stacks) where
  -- what a result is shown as leads to a place; what isn't shown leaves it
  abbrev FitsBy : SlotLog → List RecordedLine → Command → Option Shown → SlotLog → Type 0
  FitsBy place vs command None next = next ≡ place
  FitsBy place vs command (Some shown) next = after_result stacks place vs (answers_with command shown) ≡ Some next

  abbrev SlotFits : SlotLog → Command → SlotStepped → Type 0
  SlotFits place command s = FitsBy place (map seen_of s.outcome.trail) command (shown_of s.outcome.answer) (place_of s.slot)

  fits_if : (b : Bool) (place : SlotLog) (command : Command) (s t : SlotStepped) → (b ≡ true → SlotFits place command s)
      → (b ≡ false → SlotFits place command t) → SlotFits place command (if b then s else t)
  fits_if true place command s t first second = first refl
  fits_if false place command s t first second = second refl

  -- ---- a call that runs a stack

  refused_fits : (func : Func) (flags : ℕ) (h : Held) → is_refused_for_flags func flags ≡ true → at_call stacks func codes.SystemErr [] h ≡ Some (running h)
  refused_fits funcs.ChAuthTok flags h is = refl
  refused_fits funcs.Authenticate flags h is = absurd (true≢false (sym is))
  refused_fits funcs.SetCred flags h is = absurd (true≢false (sym is))
  refused_fits funcs.AcctMgmt flags h is = absurd (true≢false (sym is))
  refused_fits funcs.OpenSession flags h is = absurd (true≢false (sym is))
  refused_fits funcs.CloseSession flags h is = absurd (true≢false (sym is))

  if_none : (b : Bool) (func other : Func) → (if b then None else Some func) ≡ Some other → (b ≡ false) × (func ≡ other)
  if_none true func other is = absurd (cc)
  if_none false func other is = (refl, cc)

  aborted_is : (pending : Option Pending) (func other : Func) → other_pending pending func ≡ Some other → aborted_by pending func other ≡ true
  aborted_is None func other is = absurd (cc)
  aborted_is (Some p) func other is =
      let both : (same_func p.func func ≡ false) × (p.func ≡ other) = if_none (same_func p.func func) p.func other is in
      ap (λ (f : Func). same_func p.func f && not (same_func p.func func)) (sym both.1)
      ∙ ap (λ (b : Bool). same_func p.func p.func && not b) both.0
      ∙ ap (λ (b : Bool). b && true) (same_func-refl p.func)

  if_some : (b : Bool) (func : Func) → (if b then None else Some func) ≡ None → not b ≡ false
  if_some true func is = refl
  if_some false func is = absurd (cc)

  pub not_other : (pending : Option Pending) (func : Func) → other_pending pending func ≡ None → is_other_pending pending func ≡ false
  not_other None func is = refl
  not_other (Some p) func is = if_some (same_func p.func func) p.func is

  -- a call that is replayed as it went
  same_system : (code : Code) → same_code code codes.SystemErr ≡ true → code ≡ codes.SystemErr
  same_system codes.SystemErr is = refl
  same_system code is = absurd (true≢false (sym is))

  not_true : (b : Bool) → (b ≡ true → ⊥) → b ≡ false
  not_true true isnt = absurd (isnt refl)
  not_true false isnt = refl

  isnt_refused : (func : Func) (code : Code) (vs : List RecordedLine) (h : Held) (w : Went Telling) → goes as_told stacks func h (telling vs) ≡ w → code ≡ w.code
      → w.state.astray ≡ false
      → Asks stacks h h.pending → is_other_pending h.pending func ≡ false → is_refused_change func code vs ≡ false
  isnt_refused funcs.ChAuthTok code [] h w is same straight asks own = not_true (same_code code codes.SystemErr) (λ system.
      nothing_is_retold stacks h asks own (ap (λ (x : Went Telling). x.state.astray) is ∙ straight)
      (ap (λ (x : Went Telling). x.code) is ∙ sym same ∙ same_system code system))
  isnt_refused func code vs h w is same straight asks own = refl

  at_call_if : (a b : Bool) (x y : Option SlotLog) → a ≡ false → b ≡ false → (if a then x else if b then None else y) ≡ y
  at_call_if true b x y is is' = absurd (true≢false is)
  at_call_if false true x y is is' = absurd (true≢false is')
  at_call_if false false x y is is' = refl

  retold_is : (code : Code) (h : Held) → past_call code (went code h (telling [])) ≡ Some (running h)
  retold_is code h = ap (λ (b : Bool). only_if b (running h)) (same_code-refl code)

  call_fits : (func : Func) (code : Code) (vs : List RecordedLine) (h next : Held) → goes as_told stacks func h (telling vs) ≡ went code next (telling [])
      → Asks stacks h h.pending → is_other_pending h.pending func ≡ false → at_call stacks func code vs h ≡ Some (running next)
  call_fits func code vs h next is asks own =
      at_call_if (is_refused_change func code vs) (is_other_pending h.pending func) (Some (running h))
      (past_call code (goes as_told stacks func h (telling vs)))
      (isnt_refused func code vs h (went code next (telling [])) is refl refl asks own) own
      ∙ ap (past_call code) is ∙ retold_is code next

module _ (players : List Player) (number_of : Code → ℕ → ℕ) (stacks : Stacks) where
  ran_fits : (func : Func) (flags : ℕ) (h : PlainHandle) (w : PlainWorld) → h.stacks ≡ stacks → h.room.transaction.trail ≡ []
      → is_refused_for_flags func flags ≡ false → Asks stacks (held_in h) h.pending → is_other_pending h.pending func ≡ false
      → (let c = stack_call players number_of func flags h w in SlotFits stacks (running (held_in h)) (runs func)
      (told_by (filed_in w) (answers.Code c.code) c))
  ran_fits func flags h w have none flagged asks own =
      let c : Called = stack_call players number_of func flags h w in
      let g : GoesAs players func flags (past_in h.pending) (first_in h.pending) h c = library_calls_go players number_of func flags h w flagged own in
      let r : Retold trail_in (asking_by players flags) h.stacks func (held_in h) g.begun =
      calls_are_retold State trail_in (asking_by players flags) (trails players flags) h.stacks func (held_in h) g.begun in
      let empty : trail_in g.begun ≡ [] = ap (map seen_of) (g.trail ∙ none) in
      let vs : map seen_of c.handle.room.transaction.trail ≡ r.news =
      ap (map seen_of) g.told ∙ r.adds ∙ ap (λ (xs : List RecordedLine). xs ++ r.news) empty in
      let replayed : goes as_told h.stacks func (held_in h) (telling (map seen_of c.handle.room.transaction.trail))
      ≡ went c.code (held_in c.handle) (telling []) =
      ap (λ (xs : List RecordedLine). goes as_told h.stacks func (held_in h) (telling xs)) (vs ∙ sym (append-nil r.news)) ∙ r.same []
      ∙ ap (λ (code : Code). went code (goes (asking_by players flags) h.stacks func (held_in h) g.begun).held (telling [])) (sym g.code)
      ∙ ap (λ (x : Held). went c.code x (telling [])) (sym g.held) in
      call_fits stacks func c.code (map seen_of c.handle.room.transaction.trail) (held_in h) (held_in c.handle)
      (subst (λ (x : Stacks). goes as_told x func (held_in h) (telling (map seen_of c.handle.room.transaction.trail))
      ≡ went c.code (held_in c.handle) (telling [])) have replayed) asks own

  unless_fits : (found : Option Func) (func : Func) (flags : ℕ) (h : PlainHandle) (w : PlainWorld) (s : SlotStepped) → other_pending h.pending func ≡ found
      → (other_pending h.pending func ≡ None → SlotFits stacks (running (held_in h)) (runs func) s)
      → SlotFits stacks (running (held_in h)) (runs func) (unless_pending found (opened h) w s)
  unless_fits None func flags h w s is there = there is
  unless_fits (Some other) func flags h w s is there = ap (λ (b : Bool). only_if b (running (held_in h))) (aborted_is stacks h.pending func other is)

  stack_fits : (func : Func) (flags : ℕ) (h : PlainHandle) (w : PlainWorld) → h.stacks ≡ stacks → h.room.transaction.trail ≡ []
      → Asks stacks (held_in h) h.pending
      → SlotFits stacks (running (held_in h)) (runs func) (stack_step players number_of func flags h w)
  stack_fits func flags h w have none asks =
      fits_if stacks (is_refused_for_flags func flags) (running (held_in h)) (runs func) _ _
      (λ flagged. refused_fits stacks func flags (held_in h) flagged)
      (λ flagged. unless_fits (other_pending h.pending func) func flags h w _ refl
      (λ alone. ran_fits func flags h w have none flagged asks (not_other stacks h.pending func alone)))

  -- ---- the calls on an open transaction

  open_fits : (call : AppCall) (h : PlainHandle) (w : PlainWorld) → h.stacks ≡ stacks → h.room.transaction.trail ≡ [] → Asks stacks (held_in h) h.pending
      → SlotFits stacks (running (held_in h)) (command_of call) (open_step players number_of h w call)
  open_fits (calls.Start service user) h w have none asks = refl
  open_fits (calls.End status) h w have none asks = refl
  open_fits (calls.Authenticate flags) h w have none asks = stack_fits funcs.Authenticate flags h w have none asks
  open_fits (calls.SetCred flags) h w have none asks = stack_fits funcs.SetCred flags h w have none asks
  open_fits (calls.AcctMgmt flags) h w have none asks = stack_fits funcs.AcctMgmt flags h w have none asks
  open_fits (calls.OpenSession flags) h w have none asks = stack_fits funcs.OpenSession flags h w have none asks
  open_fits (calls.CloseSession flags) h w have none asks = stack_fits funcs.CloseSession flags h w have none asks
  open_fits (calls.ChAuthTok flags) h w have none asks = stack_fits funcs.ChAuthTok flags h w have none asks
  open_fits (calls.SetItem item value) h w have none asks = fits_if stacks (is_refused_item ApplicationSets item) (running (held_in h)) sets_item _ _
      (λ e. refl) (λ e. refl)
  open_fits (calls.GetItem item) h w have none asks = fits_if stacks (is_refused_item ApplicationGets item) (running (held_in h)) gets_item _ _
      (λ e. refl) (λ e. refl)
  open_fits (calls.PutEnv text) h w have none asks = fits_if stacks (is_refused_text text h.room.transaction.env) (running (held_in h)) puts_env _ _
      (λ e. refl) (λ e. refl)
  open_fits (calls.GetEnv name) h w have none asks = refl
  open_fits calls.EnvList h w have none asks = refl
  open_fits (calls.FailDelay micros) h w have none asks = refl
  open_fits (calls.DelayFn on) h w have none asks = refl
  open_fits (calls.Reply text) h w have none asks = refl

  -- ---- the calls on a closed place

  start_fits : (names : List (List ℕ)) (conv : ConvState) (filed : ℕ) (opens : Stacks → PlainHandle) (found : Result Counts Stop) (under : Stacks)
      (w : PlainWorld)
      → ((x : Stacks) → held_in (opens x) ≡ held_in (opens under)) → held_in (opens under) ≡ nothing_held
      → SlotFits stacks shut starts (opened_by names conv filed (started_by opens found under w).world (started_by opens found under w).answer)
  start_fits names conv filed opens (Ok counts) under w same nothing = ap (λ (h : Held). Some (running h)) (sym nothing)
  start_fits names conv filed opens (Err stop) under w same nothing = refl

  closed_fits : (call : AppCall) (place : ℕ) (conv : ConvState) (w : PlainWorld)
      → SlotFits stacks shut (command_of call) (closed_step players number_of place conv w call)
  closed_fits (calls.Start service user) place conv w =
      start_fits (names_of players) conv (filed_in w) (new_handle place service user conv (names_of players)) (loaded w.vault w.process.root service)
      (stacks_under w.vault w.process.root service) w (λ x. refl) refl
  closed_fits (calls.End status) place conv w = refl
  closed_fits (calls.Authenticate flags) place conv w = refl
  closed_fits (calls.SetCred flags) place conv w = refl
  closed_fits (calls.AcctMgmt flags) place conv w = refl
  closed_fits (calls.OpenSession flags) place conv w = refl
  closed_fits (calls.CloseSession flags) place conv w = refl
  closed_fits (calls.ChAuthTok flags) place conv w = refl
  closed_fits (calls.SetItem item value) place conv w = refl
  closed_fits (calls.GetItem item) place conv w = refl
  closed_fits (calls.PutEnv text) place conv w = refl
  closed_fits (calls.GetEnv name) place conv w = refl
  closed_fits calls.EnvList place conv w = refl
  closed_fits (calls.FailDelay micros) place conv w = refl
  closed_fits (calls.DelayFn on) place conv w = refl
  closed_fits (calls.Reply text) place conv w = refl

  slot_fits : (call : AppCall) (place : ℕ) (slot : PlainSlot) (w : PlainWorld) → HasStacks stacks slot → IsSound stacks (place_of slot)
      → SlotFits stacks (place_of slot) (command_of call) (slot_step players number_of place slot w call)
  slot_fits call place (closed conv) w have sound = closed_fits call place conv w
  slot_fits call place (opened h) w have sound = open_fits call (told_all h) w have refl sound

  -- ---- one step

  on_after : (places next : List SlotLog) (b : Block) → after_block stacks places b ≡ Some next → fold stacks places (b ∷ []) ≡ Some next
  on_after places next b is = ap (λ (x : Option (List SlotLog)). fold_on stacks x (λ new_logs. fold stacks new_logs [])) is

  -- what is shown of a step on a place that is there
  shown_fits : (slots : List PlainSlot) (number : ℕ) (call : AppCall) (slot : PlainSlot) (s : SlotStepped) (told : List ToldLine) (shown : Option Shown)
      → slot_at slots number ≡ Some slot → visits_told told ≡ map seen_of s.outcome.trail
      → FitsBy stacks (place_of slot) (map seen_of s.outcome.trail) (command_of call) shown (place_of s.slot)
      → fold stacks (places_of slots) (blocks_by number (command_of call) told shown) ≡ Some (places_of (with_slot slots number s.slot))
  shown_fits slots number call slot s told None there vs is =
      ap (λ (x : List SlotLog). Some x) (sym (with_same (places_of slots) number (place_of slot) (place_at-of slots number ∙ ap (option_map place_of) there))
      ∙ ap (with_place (places_of slots) number) (sym is) ∙ with_place-of slots number s.slot)
  shown_fits slots number call slot s told (Some shown) there vs is =
      let b : Block = block_of number told (answers_with (command_of call) shown) in
      on_after (places_of slots) (places_of (with_slot slots number s.slot)) b
      (ap (after_at stacks (places_of slots) b) (place_at-of slots number ∙ ap (option_map place_of) there)
      ∙ ap (with_after stacks (places_of slots) number) (ap (λ (xs : List RecordedLine). after_result stacks (place_of slot) xs
      (answers_with (command_of call) shown)) vs ∙ is)
      ∙ ap (λ (x : List SlotLog). Some x) (with_place-of slots number s.slot))

  have_at : (slots : List PlainSlot) (i : ℕ) (slot : PlainSlot) → HaveStacks stacks slots → slice_get slots i ≡ Some slot → HasStacks stacks slot
  have_at [] i slot have is = absurd (cc)
  have_at (x ∷ slots) zero slot have is = subst (HasStacks stacks) (let e : x ≡ slot = cc in e) have.0
  have_at (x ∷ slots) (suc i) slot have is = have_at slots i slot have.1 is

  sound_at : (slots : List PlainSlot) (i : ℕ) (slot : PlainSlot) → AreSound stacks (places_of slots) → slice_get slots i ≡ Some slot
      → IsSound stacks (place_of slot)
  sound_at [] i slot sound is = absurd (cc)
  sound_at (x ∷ slots) zero slot sound is = subst (λ (y : PlainSlot). IsSound stacks (place_of y)) (let e : x ≡ slot = cc in e) sound.0
  sound_at (x ∷ slots) (suc i) slot sound is = sound_at slots i slot sound.1 is

  pub have_in : (slots : List PlainSlot) (number : ℕ) (slot : PlainSlot) → HaveStacks stacks slots → slot_at slots number ≡ Some slot → HasStacks stacks slot
  have_in slots zero slot have is = absurd (cc)
  have_in slots (suc i) slot have is = have_at slots i slot have is

  sound_in : (slots : List PlainSlot) (number : ℕ) (slot : PlainSlot) → AreSound stacks (places_of slots) → slot_at slots number ≡ Some slot
      → IsSound stacks (place_of slot)
  sound_in slots zero slot sound is = absurd (cc)
  sound_in slots (suc i) slot sound is = sound_at slots i slot sound is

  found_fits : (slots : List PlainSlot) (w : PlainWorld) (step : Step) (found : Option PlainSlot) → slot_at slots step.number ≡ found → HaveStacks stacks slots
      → AreSound stacks (places_of slots)
      → (let s = stepped_at players number_of slots w step.number step.call found in
      fold stacks (places_of slots) (reported (names_of players) step s.outcome s.world.process.ledger) ≡ Some (places_of s.slots))
  found_fits slots w step None there have sound =
      let s : Stepped = stepped_at players number_of slots w step.number step.call None in
      let told : List ToldLine = all_told (names_of players) s.outcome s.world.process.ledger in
      let b : Block = block_of step.number told (answers_with (command_of step.call) shows_bad_number) in
      on_after (places_of slots) (places_of slots) b
      (ap (after_at stacks (places_of slots) b) (place_at-of slots step.number ∙ ap (option_map place_of) there)
      ∙ ap (λ (xs : List RecordedLine). if is_none xs then Some (places_of slots) else None) (block_visits (names_of players) s.outcome s.world.process.ledger))
  found_fits slots w step (Some slot) there have sound =
      let s : SlotStepped = slot_step players number_of step.number slot w step.call in
      shown_fits slots step.number step.call slot s (all_told (names_of players) s.outcome s.world.process.ledger) (shown_of s.outcome.answer) there
      (block_visits (names_of players) s.outcome s.world.process.ledger)
      (slot_fits step.call step.number slot w (have_in slots step.number slot have there) (sound_in slots step.number slot sound there))

pub steps_fit : StepsFit
unfolding stepped
steps_fit players number_of stacks slots w step have sound = found_fits players number_of stacks slots w step (slot_at slots step.number) refl have sound
