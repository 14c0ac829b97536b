-- The events of a run's lines, and of its implicit ends.
use Rattle.std.proofs.Common.{◌≡◌, ℕ, zero, suc, ◌+◌, ◌≤◌, ◌<◌, false, nat_eq, List, [], ◌∷◌, ◌++◌, length, take, drop, reverse, Some, None}
use Rattle.std.proofs.Common.{refl, sym, ap, ◌∙◌, subst, append_assoc, append-nil, length-append, arith}
use Rattle.std.specs.Prelude.{slice_get}
use Rattle.std.proofs.lemmas.Bool.Decides.{nat_tests}
use Rattle.data_cleanup.specs.Cleanup.{Notes, ledger_after}
use Rattle.data_cleanup.specs.Due.{Event, ends}
use Rattle.data_cleanup.specs.Ledger.{PlainLedger}
use Rattle.data_cleanup.specs.Modelled.{Lists, ModelsEvents, clean_list}
use Rattle.pam_base.specs.Code.{number_of}
use Rattle.pam_base.specs.Lines.{lines_of}
use Rattle.pam_base.specs.declared.code.Code.{Code}
use Rattle.report_step.specs.pam_handle.specs.Handle.{PlainHandle}
use Rattle.report_step.specs.pam_room.specs.Module.{Player, notes_of}
use Rattle.report_step.specs.pam_room.specs.State.{PlainWorld}
use Rattle.report_step.specs.pam_library.specs.Calls.{MoveOn, Moved, events_of, last_ledger, last_lists}
use Rattle.report_step.specs.pam_library.specs.Slots.{PlainSlot, closed, data_in, lists_of, opened}
use Rattle.pam_outside.specs.Streams.{SinkState}
use Rattle.record_reader.specs.Run.{come_to, run_items}
use Rattle.record_reader.specs.LineRun.{run_lines}
use Rattle.cmd_run.specs.State.{Setting, RunState, state_of}
use Rattle.record_reader.specs.Looked.{looked}
use Rattle.cmd_run.specs.Script.{line_asked, script_step}
use Rattle.cmd_run.specs.Step.{line_step}
use Rattle.cmd_run.specs.Closings.{all_closed, closings_after, last_state, world_after}
use Rattle.cmd_run.specs.Events.{LeadOn, Served, AddsEvents, closing_events, line_calls, line_events, run_events}
use Rattle.cmd_run.proofs.ItemRequestFacts.{AllLooked}
use Rattle.cmd_run.proofs.LineEffectFacts.{asked_for}

-- ---- lines

module _ (setting : Setting) where
  abbrev note : Notes
  note = notes_of setting.players

  abbrev pub LinesLead : ℕ → RunState → List (List ℕ) → ℕ → RunState → List ℕ → Type 0
  LinesLead = LeadOn looked line_asked script_step setting

  abbrev pub LinesServed : ℕ → ℕ → RunState → RunState → List ℕ → List (List ℕ) → SinkState → SinkState → Type 0
  LinesServed = Served looked line_asked script_step setting

  calls_move : (ls : List (List ℕ)) (n m : ℕ) (s t : RunState) (text : List ℕ) → LinesLead n s ls m t text
      → MoveOn note 17 s.world.process.ledger (lists_of s.slots) (line_calls setting n s ls)
  unfolding line_calls
  calls_move [] n m s t text a = tt
  calls_move (l ∷ ls) n m s t text a = rw a.4 (rw (asked_for setting n s l _ a.4) at a.5, calls_move ls (n + 1) m a.0 t a.2 a.6)

  ledger_is : (ls : List (List ℕ)) (n m : ℕ) (s t : RunState) (text : List ℕ) → LinesLead n s ls m t text
      → last_ledger s.world.process.ledger (line_calls setting n s ls) ≡ t.world.process.ledger
  unfolding line_calls
  ledger_is [] n m s t text a = ap (λ (x : RunState). x.world.process.ledger) (sym a.1)
  ledger_is (l ∷ ls) n m s t text a = rw a.4 (ledger_is ls (n + 1) m a.0 t a.2 a.6)

  lists_are : (ls : List (List ℕ)) (n m : ℕ) (s t : RunState) (text : List ℕ) → LinesLead n s ls m t text
      → last_lists (lists_of s.slots) (line_calls setting n s ls) ≡ lists_of t.slots
  unfolding line_calls
  lists_are [] n m s t text a = ap (λ (x : RunState). lists_of x.slots) (sym a.1)
  lists_are (l ∷ ls) n m s t text a = rw a.4 (lists_are ls (n + 1) m a.0 t a.2 a.6)

  -- a run of these lines has this state and this text
  pub lead_runs : (ls : List (List ℕ)) (n m : ℕ) (s t : RunState) (text : List ℕ) → LinesLead n s ls m t text
      → run_lines (line_step setting) n s ls ≡ come_to text t m None
  unfolding run_items
  lead_runs [] n m s t text a = rw (a.0, a.1, a.2) refl
  lead_runs (l ∷ ls) n m s t text a = rw (a.4, lead_runs ls (n + 1) m a.0 t a.2 a.6, a.3) refl

  abbrev pub CallsAddEvents : Type 0
  CallsAddEvents = (note : Notes) (limit : ℕ) (calls : List Moved) (ledger : PlainLedger) (lists : Lists) (events : List Event)
      → ModelsEvents note limit ledger lists events → MoveOn note limit ledger lists calls
      → ModelsEvents note limit (last_ledger ledger calls) (last_lists lists calls) (events ++ events_of ledger calls)

  pub lines_stand : CallsAddEvents → (ls : List (List ℕ)) (m : ℕ) (s t : RunState) (text : List ℕ) → LinesLead 0 s ls m t text
      → AddsEvents note (line_events setting s ls) s t
  lines_stand law ls m s t text a = λ events stand.
      rw (ledger_is ls 0 m s t text a, lists_are ls 0 m s t text a) at
      (law note 17 (line_calls setting 0 s ls) s.world.process.ledger (lists_of s.slots) events stand (calls_move ls 0 m s t text a))

take-front : (xs ys : List (List ℕ)) → take (length xs) (xs ++ ys) ≡ xs
take-front [] ys = refl
take-front (x ∷ xs) ys = ap (λ (t : List (List ℕ)). x ∷ t) (take-front xs ys)

drop-front : (xs ys : List (List ℕ)) → drop (length xs) (xs ++ ys) ≡ ys
drop-front [] ys = refl
drop-front (x ∷ xs) ys = drop-front xs ys

module _ (setting : Setting) (m : ℕ) (s t : RunState) (input : List ℕ) (others : List (List ℕ)) (p q : SinkState) (all : AllLooked)
    (w : LinesServed setting 0 m s t input others p q) where
  lines_are_served : lines_of input ≡ w.served ++ others
  lines_are_served = sym (all 0 input) ∙ w.among

  pub first_lines : take m (lines_of input) ≡ w.served
  first_lines =
      let e : m ≡ length w.served = omega (arith, w.number) in
      rw (e, lines_are_served) (take-front w.served others)

  pub last_lines : drop m (lines_of input) ≡ others
  last_lines =
      let e : m ≡ length w.served = omega (arith, w.number) in
      rw (e, lines_are_served) (drop-front w.served others)

-- ---- one slot among others

here : (front rest : List PlainSlot) (x : PlainSlot) → slice_get (front ++ x ∷ rest) (length front) ≡ Some x
here [] rest x = refl
here (y ∷ front) rest x = here front rest x

others : (front rest : List PlainSlot) (x y : PlainSlot) (i : ℕ) → (i ≡ length front → ⊥) → slice_get (front ++ x ∷ rest) i ≡ slice_get (front ++ y ∷ rest) i
others [] rest x y zero differs = absurd (differs refl)
others [] rest x y (suc i) differs = refl
others (z ∷ front) rest x y zero differs = refl
others (z ∷ front) rest x y (suc i) differs = others front rest x y i (λ e. differs (ap suc e))

other_lists : (front rest : List PlainSlot) (x y : PlainSlot) (h : ℕ) → nat_eq h (length front + 1) ≡ false
    → lists_of (front ++ x ∷ rest) h ≡ lists_of (front ++ y ∷ rest) h
other_lists front rest x y zero differs = refl
other_lists front rest x y (suc i) differs = ap (data_in (suc i)) (others front rest x y i (λ (e : i ≡ length front). grind (arith, nat_tests)))

list_here : (front rest : List PlainSlot) (x : PlainSlot) → lists_of (front ++ x ∷ rest) (suc (length front)) ≡ data_in (suc (length front)) (Some x)
list_here front rest x = ap (data_in (suc (length front))) (here front rest x)

-- ---- implicit ends

module _ (players : List Player) (code : Code) where
  abbrev pub EndStands : Type 0
  EndStands = (note : Notes) (limit handle status : ℕ) (events : List Event) (before after : PlainLedger) (lists next : Lists)
      → ModelsEvents note limit before lists events → handle < limit → after ≡ ledger_after note status (reverse (lists handle).live) before
      → next handle ≡ clean_list handle []
      → ((h : ℕ) → nat_eq h handle ≡ false → next h ≡ lists h) → ModelsEvents note limit after next (events ++ ends handle status ∷ [])

  abbrev Stand : PlainWorld → List PlainSlot → List Event → Type 0
  Stand w slots events = ModelsEvents (notes_of players) 17 w.process.ledger (lists_of slots) events

  abbrev Past : List PlainSlot → List PlainSlot → PlainWorld → List Event → Type 0
  Past front slots w events =
      let t = last_state (state_of (front ++ slots) w) (closings_after players code front slots w) in
      Stand t.world t.slots (events ++ closing_events (length front + 1) (number_of code) slots)

  one_end : EndStands → (front rest : List PlainSlot) (h : PlainHandle) (w : PlainWorld) (events : List Event) → length front + 1 < 17
      → Stand w (front ++ opened h ∷ rest) events → Stand (world_after players code h w) (front ++ closed h.room.conv ∷ rest)
      (events ++ ends (length front + 1) (number_of code) ∷ [])
  one_end law front rest h w events few stand =
      let k : length front + 1 ≡ suc (length front) = omega arith in
      law (notes_of players) 17 (length front + 1) (number_of code) events w.process.ledger (world_after players code h w).process.ledger
      (lists_of (front ++ opened h ∷ rest)) (lists_of (front ++ closed h.room.conv ∷ rest))
      stand few
      (rw (k, list_here front rest (opened h)) refl)
      (rw (k, list_here front rest (closed h.room.conv)) refl)
      (λ n differs. other_lists front rest (closed h.room.conv) (opened h) n differs)

  moved_over : (front rest : List PlainSlot) (x : PlainSlot) → (front ++ x ∷ []) ++ rest ≡ front ++ x ∷ rest
  moved_over front rest x = append_assoc front (x ∷ []) rest

  one_longer : (front : List PlainSlot) (x : PlainSlot) → length (front ++ x ∷ []) ≡ length front + 1
  one_longer front x = length-append front (x ∷ [])

  followed : EndStands → (slots front : List PlainSlot) (w : PlainWorld) (events : List Event) → length front + length slots ≤ 16
      → Stand w (front ++ slots) events → Past front slots w events
  unfolding closings_after
  followed law [] front w events few stand = rw (append-nil events) stand
  followed law (closed conv ∷ slots) front w events few stand =
      let front2 : List PlainSlot = front ++ closed conv ∷ [] in
      let stand2 : Stand w (front2 ++ slots) events = subst (λ (l : List PlainSlot). Stand w l events) (sym (moved_over front slots (closed conv))) stand in
      let rest : Past front2 slots w events = followed law slots front2 w events (omega (arith, few, one_longer front (closed conv))) stand2 in
      rw (moved_over front slots (closed conv), one_longer front (closed conv)) at rest
  followed law (opened h ∷ slots) front w events few stand =
      let x : PlainSlot = closed h.room.conv in
      let front2 : List PlainSlot = front ++ x ∷ [] in
      let v : PlainWorld = world_after players code h w in
      let more : List Event = events ++ ends (length front + 1) (number_of code) ∷ [] in
      let stand2 : Stand v (front2 ++ slots) more = subst (λ (l : List PlainSlot). Stand v l more) (sym (moved_over front slots x))
      (one_end law front slots h w events (omega (arith, few)) stand) in
      let rest : Past front2 slots v more = followed law slots front2 v more (omega (arith, few, one_longer front x)) stand2 in
      rw (
        moved_over front slots x,
        one_longer front x,
        append_assoc events (ends (length front + 1) (number_of code) ∷ [])
            (closing_events (length front + 1 + 1) (number_of code) slots),
      ) at rest

  pub closings_stand : EndStands → (s : RunState) → length s.slots ≤ 16
      → AddsEvents (notes_of players) (closing_events 1 (number_of code) s.slots) s (all_closed players code s)
  closings_stand law s few = λ events stand. followed law s.slots [] s.world events (omega (arith, few)) stand

-- ---- a whole run

pub run_stands : AllLooked → (setting : Setting) (code : Code) → CallsAddEvents setting → EndStands setting.players code
    → (m : ℕ) (s t end : RunState) (input : List ℕ) (others : List (List ℕ)) (p q : SinkState) → LinesServed setting 0 m s t input others p q
    → length t.slots ≤ 16
    → end ≡ all_closed setting.players code t → AddsEvents (notes_of setting.players) (run_events setting code s input m t) s end
run_stands all setting code calls law m s t end input others p q w few e = λ events stand.
    let front = lines_stand setting calls w.served m s t w.text w.lead events stand in
    let whole = closings_stand setting.players code law t few (events ++ line_events setting s w.served) front in
    rw (
      e,
      first_lines setting m s t input others p q all w,
      ← append_assoc events (line_events setting s w.served)
          (closing_events 1 (number_of code) t.slots),
    ) whole
