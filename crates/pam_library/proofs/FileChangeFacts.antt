-- The lines that a step runs, one after another, and how they change files.
use Rattle.std.proofs.Common.{◌≡◌, inl, inr, ℕ, zero, suc, ◌+◌, Bool, true, false, cond, if◌then◌else◌, List, [], ◌∷◌, ◌++◌, map, Option, Some, None, slice_get, Result, Ok, Err, refl, sym, ap, ◌∙◌, subst}
use Rattle.std.specs.List.{AllByRecursion}
use Rattle.std.proofs.lemmas.List.{map_push}
use Rattle.pam_base.specs.declared.code.Code.{Code}
use Rattle.pam_base.specs.declared.code.Code.TheVariants as codes
use Rattle.pam_base.specs.declared.call.AppCall.{AppCall}
use Rattle.pam_base.specs.declared.call.AppCall.TheVariants as calls
use Rattle.pam_base.specs.declared.call.Func.{Func}
use Rattle.pam_base.specs.declared.call.Step.{Step}
use Rattle.conv_port.specs.Conv.{ConvState}
use Rattle.pam_handle.specs.control_words.specs.declared.nodes.Rule.{Rule}
use Rattle.pam_handle.specs.control_words.specs.Stack.{Stack, none, line, sub, lines_in}
use Rattle.pam_handle.specs.item_store.specs.Access.{is_refused as is_refused_item}
use Rattle.pam_handle.specs.item_store.specs.declared.access.Access.TheVariants.{ApplicationSets, ApplicationGets}
use Rattle.pam_handle.specs.env_list.specs.Environment.{is_refused as is_refused_text}
use Rattle.pam_handle.specs.handler_chain.specs.declared.opinion.Opinion.{Opinion}
use Rattle.pam_handle.specs.handler_chain.specs.declared.pass_kind.PassKind.{PassKind}
use Rattle.pam_handle.specs.handler_chain.specs.Opinion.{opening as first_opinion}
use Rattle.pam_handle.specs.handler_chain.specs.Walk.{Serving, Walked, Next, after, stop, onward, walk}
use Rattle.pam_handle.specs.handler_chain.specs.Pass.{Answering, PassState, Visit as Passing, pass_state, served_past, serving}
use Rattle.pam_handle.specs.handler_chain.specs.Route.{KeptAnswers}
use Rattle.pam_handle.specs.dispatch_core.specs.Lines.{answers_by, call_of, names_of}
use Rattle.pam_handle.specs.handler_chain.specs.FlatLines.{module_of}
use Rattle.pam_outside.specs.Files.{File, VaultState}
use Rattle.pam_handle.specs.pam_room.specs.Call.{PlainCall}
use Rattle.pam_handle.specs.pam_room.specs.Module.{Player}
use Rattle.pam_handle.specs.pam_room.specs.Serve.{serve_line, served_by, visited}
use Rattle.pam_handle.specs.pam_room.specs.declared.visits.Visit.{Visit}
use Rattle.pam_handle.specs.pam_room.specs.State.{PlainWorld, State, state_of}
use Rattle.pam_handle.specs.service_load.specs.FirstFault.{Counts, Stop}
use Rattle.pam_handle.specs.service_load.specs.declared.load_fault.LoadFault.{LoadFault}
use Rattle.pam_handle.specs.service_load.specs.Stacks.{Stacks}
use Rattle.pam_handle.specs.dispatch_core.specs.Pending.{is_other_pending}
use Rattle.pam_handle.specs.Handle.{PlainHandle}
use Rattle.pam_handle.specs.dispatch_core.specs.Calls.{Held, answers_held, goes}
use Rattle.pam_handle.specs.Items.{all_told}
use Rattle.pam_handle.specs.AfterPasses.{EndsLeaveIt}
use Rattle.pam_handle.specs.Call.{Called, called}
use Rattle.pam_handle.specs.StackCalls.{asking_by, finished, flags_seen, held_in, passes_of, room_begun, stack_call}
use Rattle.pam_handle.proofs.EachPassFacts.{Keeps, passes_keep}
use Rattle.pam_handle.specs.Start.{started, started_by}
use Rattle.pam_handle.specs.Stopping.{first_stack}
use Rattle.pam_library.specs.declared.outcome.Answer.{Answer}
use Rattle.pam_library.specs.declared.outcome.Answer.TheVariants as answers
use Rattle.pam_library.specs.Plays.{AskedLine, IsLineOf, LineLeads, LineRun, LinesLead, RunOn, RunsBy, RunsLines, RunsNothing, IsRuleAt, StepAsks, asked_along, asked_by, module_of_path, player_numbered, run_in, visit_of, visits_of}
use Rattle.pam_library.specs.StackOf.{stack_of}
use Rattle.pam_library.specs.SlotStep.{SlotStepped, answered, closed_step, filed_in, is_refused_for_flags, open_step_by, opened_by, other_pending, slot_step, stack_step, told_by, unless_pending}
use Rattle.pam_library.specs.Slots.{PlainSlot, closed, opened, slot_at}
use Rattle.pam_library.specs.Step.{stepped, stepped_at}

-- ---- any walk

module _ {State : Type 0} (K : State → Type 0) where
  either : (b : Bool) (x y : Walked State) → K x.state → K y.state → K (cond b x y).state
  either true x y k l = k
  either false x y k l = l

  onward_keeps : (next : Next) (rest : ℕ → Walked State) (here : Walked State) → ((n : ℕ) → K (rest n).state) → K here.state → K (onward next rest here).state
  onward_keeps (after n) rest here k l = k n
  onward_keeps stop rest here k l = l

  module _ (whole : Stack) (kind : PassKind) (serve : Serving State) (serves : (rule : Rule) (at : ℕ) (s : State) → IsRuleAt rule at whole 1 → K s → K (serve rule at s).state) where
    -- a walk over a part of the stack, whose lines belong to it
    pub walk_keeps : (skip : ℕ) (stack : Stack) (at : ℕ) (entry opinion : Opinion) (s : State) → ((rule : Rule) (place : ℕ) → IsRuleAt rule place stack at → IsRuleAt rule place whole 1)
        → K s → K (walk kind serve skip stack at entry opinion s).state
    walk_keeps skip none at entry opinion s within k = k
    walk_keeps (suc skip) (line rule rest) at entry opinion s within k =
        walk_keeps skip rest (at + 1) entry opinion s (λ r p stands. within r p (inr stands)) k
    walk_keeps (suc skip) (sub inner rest) at entry opinion s within k =
        walk_keeps skip rest (at + lines_in inner) entry opinion s (λ r p stands. within r p (inr stands)) k
    walk_keeps zero (line rule rest) at entry opinion s within k =
        let here : K (serve rule at s).state = serves rule at s (within rule at (inl (refl, refl))) k in
        either (serve rule at s).stopped _ _ here
        (onward_keeps _ _ _ (λ n. walk_keeps n rest (at + 1) entry _ (serve rule at s).state (λ r p stands. within r p (inr stands)) here) here)
    walk_keeps zero (sub inner rest) at entry opinion s within k =
        let inside = walk kind serve zero inner at opinion opinion s in
        let here : K inside.state = walk_keeps zero inner at opinion opinion s (λ r p stands. within r p (inl stands)) k in
        either inside.stopped _ _ here (walk_keeps zero rest (at + lines_in inner) entry inside.opinion inside.state (λ r p stands. within r p (inr stands)) here)

  module _ (whole : Stack) (kind : PassKind) (kept : KeptAnswers) (answering : Answering State)
      (asks : (rule : Rule) (at : ℕ) (s : State) → IsRuleAt rule at whole 1 → K s → K (answering rule at s).state) where
    by_past : (rule : Rule) (at : ℕ) (past : List Code) (visits : List Passing) (s : State) → IsRuleAt rule at whole 1 → K s
        → K (served_past kind kept answering rule at past visits s).state.state
    by_past rule at [] visits s stands k = asks rule at s stands k
    by_past rule at (p ∷ past) visits s stands k = k

abbrev pub KeptWithin : {State : Type 0} → (State → Type 0) → PassState State → Type 0
KeptWithin K p = K p.state

-- ---- one more line

module _ (players : List Player) where
  run_last : (ls : List LineRun) (l : LineRun) (s t : State) → RunOn players ls s t → l.visit ≡ visit_of l.visit.place l.rule.path (run_in players l t).answer
      → RunOn players (ls ++ l ∷ []) s (run_in players l t).state
  run_last [] l s t ran e = subst (λ (u : State). RunOn players (l ∷ []) u (run_in players l t).state) ran (e, refl)
  run_last (m ∷ ls) l s t ran e = (ran.0, run_last ls l (run_in players m s).state t ran.1 e)

  trail_of : (o : Option Player) (number place : ℕ) (path : List ℕ) (call : PlainCall) (s : State)
      → let a = visited place path (served_by players o number call s) in a.state.room.transaction.trail ≡ s.room.transaction.trail ++ visit_of place path a.answer ∷ []
  trail_of None number place path call s = refl
  trail_of (Some p) number place path call s = refl

  trail_after : (number : Option ℕ) (place : ℕ) (path : List ℕ) (call : PlainCall) (s : State)
      → let a = serve_line players number place path call s in a.state.room.transaction.trail ≡ s.room.transaction.trail ++ visit_of place path a.answer ∷ []
  trail_after None place path call s = refl
  trail_after (Some n) place path call s = trail_of (slice_get players n) n place path call s

all_and_last : {A : Type 0} (P : A → Type 0) (xs : List A) (x : A) → AllByRecursion P xs → P x → AllByRecursion P (xs ++ x ∷ [])
all_and_last P [] x a p = (p, tt)
all_and_last P (y ∷ ys) x a p = (a.0, all_and_last P ys x a.1 p)

-- ---- a call of modules

module _ (players : List Player) (call : Func × ℕ) (stacks : Stacks) (first : State) where
  -- these lines were run from the first state to this one, and all of them are recorded
  pub record Comes (s : State) : Type 0 where
    pub lines : List LineRun
    pub each : AllByRecursion (IsLineOf call stacks) lines
    pub recorded : map (λ (l : LineRun). l.visit) lines ≡ s.room.transaction.trail
    pub ran : RunOn players lines first s

  asks : (second : Bool) (rule : Rule) (at : ℕ) (s : State) → IsRuleAt rule at (first_stack call.0 stacks) 1 → Comes s
      → Comes (answers_by players call.0 (flags_seen call.0 second call.1) rule at s).state
  asks second rule at s stands k =
      let flags = flags_seen call.0 second call.1 in
      let answer = (answers_by players call.0 flags rule at s).answer in
      let l : LineRun = record { func = call.0; flags = flags; rule = rule; visit = visit_of at rule.path answer } in
      record {
        lines = k.lines ++ l ∷ [];
        each = all_and_last (IsLineOf call stacks) k.lines l k.each (record { func_is = refl; second = second; flags_are = refl; stands = stands });
        recorded = map_push (λ (m : LineRun). m.visit) k.lines l ∙ ap (λ (t : List Visit). t ++ l.visit ∷ []) k.recorded
            ∙ sym (trail_after players (module_of (names_of players) rule) at rule.path (call_of call.0 flags rule) s);
        ran = run_last players k.lines l first s k.ran refl;
      }

  pass_comes : Keeps Comes (asking_by players call.1) stacks call.0
  pass_comes second kind kept past s k =
      let whole = first_stack call.0 stacks in
      let answering = answers_by players call.0 (flags_seen call.0 second call.1) in
      walk_keeps (KeptWithin Comes) whole kind (serving kind (answers_held kept) answering)
      (λ rule at p stands l. by_past Comes whole kind (answers_held kept) answering (asks second) rule at p.past p.visits p.state stands l)
      0 whole 1 first_opinion first_opinion (pass_state past [] s) (λ rule place stands. stands) k

  -- all passes of a call
  pub passes_come : (h : Held) (s : State) → Comes s → Comes (goes (asking_by players call.1) stacks call.0 h s).state
  passes_come h s k = passes_keep Comes (asking_by players call.1) stacks call.0 pass_comes h s k

  -- the world after a call has the files that the last line left
  pub record Ends (c : Called) : Type 0 where
    pub state : State
    pub comes : Comes state
    pub files : c.world.vault.files ≡ state.world.vault.files
    pub trail : c.handle.room.transaction.trail ≡ state.room.transaction.trail

  pub either_ends : (refused other : Bool) (a b c : Called) → Ends a → Ends b → Ends c → Ends (if refused then a else if other then b else c)
  either_ends true other a b c k l m = k
  either_ends false true a b c k l m = l
  either_ends false false a b c k l m = m

-- ---- the stack calls

module _ (leaves : EndsLeaveIt) (players : List Player) (number : Code → ℕ → ℕ) where
  abbrev call_in : Func → ℕ → Func × ℕ
  call_in func flags = (func, flags)

  module _ (h : PlainHandle) (w : PlainWorld) (empty : h.room.transaction.trail ≡ []) where
    call_ends : (func : Func) (flags : ℕ) → Ends players (call_in func flags) h.stacks (state_of (room_begun func h) w) (stack_call players number func flags h w)
    call_ends func flags =
        let call = call_in func flags in
        let begun = state_of (room_begun func h) w in
        -- no line was run yet
        let start : Comes players call h.stacks begun begun = record { lines = []; each = tt; recorded = sym empty; ran = refl } in
        let at_once : (code : Code) → Ends players call h.stacks begun (called code h w) = λ code. record { state = begun; comes = start; files = refl; trail = refl } in
        let r = passes_of players func flags h w in
        let left = leaves number func r h in
        either_ends players call h.stacks begun (is_refused_for_flags func flags) (is_other_pending h.pending func) (called codes.SystemErr h w) (called codes.Abort h w)
        (finished number func r h) (at_once codes.SystemErr) (at_once codes.Abort)
        (record { state = r.state; comes = passes_come players call h.stacks begun (held_in h) begun start; files = ap (λ (v : VaultState). v.files) left.vault; trail = left.trail })

    -- ---- a step on an open transaction

    -- what its modules got, and what it ran
    abbrev pub Runs : Func × ℕ → SlotStepped → Type 0
    Runs call s = (asked : List AskedLine) × RunsLines players h w call s.outcome.trail asked s.world.vault.files

    runs_nothing : (call : Func × ℕ) (slot : PlainSlot) (answer : Answer) → Runs call (answered slot w answer)
    runs_nothing call slot answer = (
      [],
      record {
        lines = [];
        each = tt;
        recorded = refl;
        last = state_of (room_begun call.0 h) w;
        ran = refl;
        asked_are = refl;
        left = refl;
      },
    )

    runs_call : (func : Func) (flags : ℕ) (filed : ℕ) (answer : Answer) → Runs (call_in func flags) (told_by filed answer (stack_call players number func flags h w))
    runs_call func flags filed answer =
        let e = call_ends func flags in (
          asked_along players e.comes.lines (state_of (room_begun func h) w),
          record {
            lines = e.comes.lines;
            each = e.comes.each;
            recorded = e.comes.recorded ∙ sym e.trail;
            last = e.state;
            ran = e.comes.ran;
            asked_are = refl;
            left = e.files;
          },
        )

    runs_either : (call : Func × ℕ) (b : Bool) (x y : SlotStepped) → Runs call x → Runs call y → Runs call (cond b x y)
    runs_either call true x y k l = k
    runs_either call false x y k l = l

    runs_unless : (call : Func × ℕ) (other : Option Func) (slot : PlainSlot) (s : SlotStepped) → Runs call s → Runs call (unless_pending other slot w s)
    runs_unless call None slot s k = k
    runs_unless call (Some func) slot s k = runs_nothing call slot (answers.Pending func)

    pub stack_step_runs : (func : Func) (flags : ℕ) → Runs (call_in func flags) (stack_step players number func flags h w)
    stack_step_runs func flags =
        let call = call_in func flags in
        runs_either call (is_refused_for_flags func flags) _ _ (runs_nothing call (opened h) (answers.Code codes.SystemErr))
        (runs_unless call (other_pending h.pending func) (opened h) _
        (runs_call func flags (filed_in w) (answers.Code (stack_call players number func flags h w).code)))

  -- ---- any step

  abbrev pub RunsSlot : PlainWorld → Option PlainSlot → Option (Func × ℕ) → SlotStepped → Type 0
  RunsSlot w slot call s = (asked : List AskedLine) × RunsBy players w slot call s.outcome.trail asked s.world.vault.files

  -- neither the trace nor the files have changed
  abbrev pub IsQuiet : PlainWorld → SlotStepped → Type 0
  IsQuiet w s = (s.outcome.trail ≡ []) × (s.world.vault.files ≡ w.vault.files)

  quiet : (w : PlainWorld) (s : SlotStepped) → IsQuiet w s → (asked : List AskedLine) × RunsNothing w s.outcome.trail asked s.world.vault.files
  quiet w s q = ([], record { recorded = q.0; asked_are = refl; left = q.1 })

  quiet_either : (w : PlainWorld) (b : Bool) (x y : SlotStepped) → IsQuiet w x → IsQuiet w y → IsQuiet w (cond b x y)
  quiet_either w true x y k l = k
  quiet_either w false x y k l = l

  quiet_open : (stack : Option (Func × ℕ)) (h : PlainHandle) (w : PlainWorld) (call : AppCall) → IsQuiet w (open_step_by players number stack (all_told h) w call)
      → (asked : List AskedLine) × RunsNothing w (open_step_by players number stack (all_told h) w call).outcome.trail asked (open_step_by players number stack (all_told h) w call).world.vault.files
  quiet_open stack h w call q = quiet w (open_step_by players number stack (all_told h) w call) q

  open_runs : (stack : Option (Func × ℕ)) (h : PlainHandle) (w : PlainWorld) (call : AppCall) → RunsSlot w (Some (opened h)) stack (open_step_by players number stack (all_told h) w call)
  open_runs (Some stack) h w call = stack_step_runs (all_told h) w refl stack.0 stack.1
  open_runs None h w (calls.End status) = quiet_open None h w (calls.End status) (refl, refl)
  open_runs None h w (calls.SetItem item value) = quiet_open None h w (calls.SetItem item value) (quiet_either w (is_refused_item ApplicationSets item) _ _ (refl, refl) (refl, refl))
  open_runs None h w (calls.GetItem item) = quiet_open None h w (calls.GetItem item) (quiet_either w (is_refused_item ApplicationGets item) _ _ (refl, refl) (refl, refl))
  open_runs None h w (calls.PutEnv text) = quiet_open None h w (calls.PutEnv text) (quiet_either w (is_refused_text text h.room.transaction.env) _ _ (refl, refl) (refl, refl))
  open_runs None h w call = quiet_open None h w call (refl, refl)

  load_files : (made : Stacks → PlainHandle) (r : Result Counts Stop) (stacks : Stacks) (w : PlainWorld) → (started_by made r stacks w).world.vault.files ≡ w.vault.files
  load_files made (Ok counts) stacks w = refl
  load_files made (Err s) stacks w = refl

  opened_quiet : (names : List (List ℕ)) (conv : ConvState) (filed : ℕ) (w v : PlainWorld) (r : Result PlainHandle LoadFault) → v.vault.files ≡ w.vault.files
      → IsQuiet w (opened_by names conv filed v r)
  opened_quiet names conv filed w v (Ok h) e = (refl, e)
  opened_quiet names conv filed w v (Err fault) e = (refl, e)

  closed_quiet : (place : ℕ) (conv : ConvState) (w : PlainWorld) (call : AppCall) → IsQuiet w (closed_step players number place conv w call)
  closed_quiet place conv w (calls.Start service user) =
      let s = started place service user conv (names_of players) w in
      opened_quiet (names_of players) conv (filed_in w) w s.world s.answer (load_files _ _ _ w)
  closed_quiet place conv w (calls.Reply text) = (refl, refl)
  closed_quiet place conv w call = (refl, refl)

  slot_runs : (place : ℕ) (slot : PlainSlot) (w : PlainWorld) (call : AppCall) → RunsSlot w (Some slot) (stack_of call) (slot_step players number place slot w call)
  slot_runs place (closed conv) w call = quiet w (closed_step players number place conv w call) (closed_quiet place conv w call)
  slot_runs place (opened h) w call = open_runs (stack_of call) h w call

  at_runs : (slots : List PlainSlot) (w : PlainWorld) (place : ℕ) (call : AppCall) (o : Option PlainSlot)
      → let s = stepped_at players number slots w place call o in
      (asked : List AskedLine) × RunsBy players w o (stack_of call) s.outcome.trail asked s.world.vault.files
  at_runs slots w place call None = ([], record { recorded = refl; asked_are = refl; left = refl })
  at_runs slots w place call (Some slot) = slot_runs place slot w call

  pub step_asks : (slots : List PlainSlot) (w : PlainWorld) (step : Step) → (asked : List AskedLine) × StepAsks players number slots w step asked
  unfolding stepped
  step_asks slots w step = at_runs slots w step.number step.call (slot_at slots step.number)

-- ---- files

-- what a line leads to may be replaced by what follows from it
lead_on : (o : Option Player) (l : AskedLine) (before : List File) (next more : List File → Type 0) → ((files : List File) → next files → more files)
    → LineLeads o l before next → LineLeads o l before more
lead_on None l before next more on v = (v.0, on before v.1)
lead_on (Some p) l before next more on v = (v.0, v.1, on _ v.2)

pub together : (players : List Player) (first middle last : List File) (some others : List AskedLine) → LinesLead players first some middle
    → LinesLead players middle others last
    → LinesLead players first (some ++ others) last
together players first middle last [] others g h = subst (λ (f : List File). LinesLead players f others last) g h
together players first middle last (l ∷ ls) others g h =
    lead_on (module_of_path players l.visit.path) l first (λ files. LinesLead players files ls middle) (λ files. LinesLead players files (ls ++ others) last)
    (λ files more. together players files middle last ls others more h) g

module _ (players : List Player) where
  by_player : (o : Option Player) (n : ℕ) (l : LineRun) (s : State) (next : List File → Type 0)
      → let a = visited l.visit.place l.rule.path (served_by players o n (call_of l.func l.flags l.rule) s) in
      l.visit.answer ≡ a.answer → next a.state.world.vault.files → LineLeads o (record { visit = l.visit; asked = asked_by players (Some n) l s }) s.world.vault.files next
  by_player None n l s next e more = (e, more)
  by_player (Some p) n l s next e more = (refl, e, more)

  by_number : (number : Option ℕ) (l : LineRun) (s : State) (next : List File → Type 0)
      → let a = serve_line players number l.visit.place l.rule.path (call_of l.func l.flags l.rule) s in
      l.visit.answer ≡ a.answer → next a.state.world.vault.files
      → LineLeads (player_numbered players number) (record { visit = l.visit; asked = asked_by players number l s }) s.world.vault.files next
  by_number None l s next e more = (e, more)
  by_number (Some n) l s next e more = by_player (slice_get players n) n l s next e more

  pub run_leads : (ls : List LineRun) (s t : State) → RunOn players ls s t → LinesLead players s.world.vault.files (asked_along players ls s) t.world.vault.files
  run_leads [] s t ran = ap (λ (u : State). u.world.vault.files) ran
  run_leads (l ∷ ls) s t ran =
      let path_is : l.visit.path ≡ l.rule.path = ap (λ (v : Visit). v.path) ran.0 in
      let next : List File → Type 0 = λ files. LinesLead players files (asked_along players ls (run_in players l s).state) t.world.vault.files in
      subst (λ (p : List ℕ). LineLeads (module_of_path players p) (record { visit = l.visit; asked = asked_by players (module_of (names_of players) l.rule) l s }) s.world.vault.files next)
      (sym path_is)
      (by_number (module_of (names_of players) l.rule) l s next (ap (λ (v : Visit). v.answer) ran.0) (run_leads ls (run_in players l s).state t ran.1))

  leads_nothing : (w : PlainWorld) (trail : List Visit) (asked : List AskedLine) (last : List File) → RunsNothing w trail asked last → LinesLead players w.vault.files asked last
  leads_nothing w trail asked last r = subst (λ (a : List AskedLine). LinesLead players w.vault.files a last) (sym r.asked_are) r.left

  leads_lines : (h : PlainHandle) (w : PlainWorld) (call : Func × ℕ) (trail : List Visit) (asked : List AskedLine) (last : List File)
      → RunsLines players h w call trail asked last → LinesLead players w.vault.files asked last
  leads_lines h w call trail asked last r =
      subst (λ (f : List File). LinesLead players w.vault.files asked f) (sym r.left)
      (subst (λ (a : List AskedLine). LinesLead players w.vault.files a r.last.world.vault.files) (sym r.asked_are)
      (run_leads r.lines (state_of (room_begun call.0 h) w) r.last r.ran))

  leads_by : (w : PlainWorld) (slot : Option PlainSlot) (call : Option (Func × ℕ)) (trail : List Visit) (asked : List AskedLine) (last : List File)
      → RunsBy players w slot call trail asked last → LinesLead players w.vault.files asked last
  leads_by w (Some (opened h)) (Some call) trail asked last r = leads_lines (all_told h) w call trail asked last r
  leads_by w (Some (opened h)) None trail asked last r = leads_nothing w trail asked last r
  leads_by w (Some (closed conv)) call trail asked last r = leads_nothing w trail asked last r
  leads_by w None call trail asked last r = leads_nothing w trail asked last r

  pub step_leads : (number : Code → ℕ → ℕ) (slots : List PlainSlot) (w : PlainWorld) (step : Step) (asked : List AskedLine) → StepAsks players number slots w step asked
      → LinesLead players w.vault.files asked (stepped players number slots w step).world.vault.files
  step_leads number slots w step asked a = leads_by w (slot_at slots step.number) (stack_of step.call) _ asked _ a

  -- the lines are those that are recorded
  along_visits : (ls : List LineRun) (s : State) → visits_of (asked_along players ls s) ≡ map (λ (l : LineRun). l.visit) ls
  along_visits [] s = refl
  along_visits (l ∷ ls) s = ap (λ (t : List Visit). l.visit ∷ t) (along_visits ls (run_in players l s).state)

  visits_nothing : (w : PlainWorld) (trail : List Visit) (asked : List AskedLine) (last : List File) → RunsNothing w trail asked last → visits_of asked ≡ trail
  visits_nothing w trail asked last r = ap visits_of r.asked_are ∙ sym r.recorded

  visits_by : (w : PlainWorld) (slot : Option PlainSlot) (call : Option (Func × ℕ)) (trail : List Visit) (asked : List AskedLine) (last : List File)
      → RunsBy players w slot call trail asked last → visits_of asked ≡ trail
  visits_by w (Some (opened h)) (Some call) trail asked last r =
      ap visits_of r.asked_are ∙ along_visits r.lines (state_of (room_begun call.0 (all_told h)) w) ∙ r.recorded
  visits_by w (Some (opened h)) None trail asked last r = visits_nothing w trail asked last r
  visits_by w (Some (closed conv)) call trail asked last r = visits_nothing w trail asked last r
  visits_by w None call trail asked last r = visits_nothing w trail asked last r

  pub step_visits : (number : Code → ℕ → ℕ) (slots : List PlainSlot) (w : PlainWorld) (step : Step) (asked : List AskedLine) → StepAsks players number slots w step asked
      → visits_of asked ≡ (stepped players number slots w step).outcome.trail
  step_visits number slots w step asked a = visits_by w (slot_at slots step.number) (stack_of step.call) _ asked _ a
