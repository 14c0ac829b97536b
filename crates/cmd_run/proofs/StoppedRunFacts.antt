-- What cleanup log and data model if a run stopped.
use Rattle.std.proofs.Common.{◌≡◌, ◌⊎◌, ℕ, inl, inr, List, [], ◌∷◌, ◌++◌, drop, map, take, sym, ap, ◌∙◌, append_assoc}
use Rattle.data_cleanup.specs.Due.{Event, birth, ends}
use Rattle.data_cleanup.specs.Ledger.{PlainLedger}
use Rattle.data_cleanup.specs.declared.datum.Birth.{Birth}
use Rattle.data_cleanup.specs.Modelled.{Lists}
use Rattle.pam_base.specs.Lines.{lines_of}
use Rattle.pam_base.specs.declared.code.Code.{Code}
use Rattle.pam_outside.specs.Streams.{SinkState}
use Rattle.report_step.specs.pam_room.specs.Module.{notes_of}
use Rattle.report_step.specs.pam_library.specs.Calls.{Moved, births_added, events_of}
use Rattle.report_step.specs.pam_library.specs.Slots.{lists_of}
use Rattle.cmd_run.specs.AnyWorld.{AllEndsAre, ProceedsBy}
use Rattle.cmd_run.specs.Ends.{EndsAre, IsStatusOf}
use Rattle.record_reader.specs.Looked.{looked}
use Rattle.cmd_run.specs.Asked.{FirstAsks}
use Rattle.cmd_run.specs.Script.{line_asked, script_step}
use Rattle.cmd_run.specs.Events.{Broken, IsAskedBy, IsLaterEnd, AddsEvents, EventsAfterLines, EventsUntilCut, line_events}
use Rattle.cmd_run.specs.State.{Setting, RunState}
use Rattle.cmd_run.proofs.ItemRequestFacts.{AllLooked, as_parsed}
use Rattle.cmd_run.proofs.RunEventFacts.{CallsAddEvents, LinesServed, first_lines, last_lines, lead_runs, lines_stand}
use Rattle.cmd_run.proofs.CallSequenceFacts.{goes_on, proceeds_so}

same_after : (xs ys zs : List ℕ) → xs ++ ys ≡ xs ++ zs → ys ≡ zs
same_after [] ys zs e = e
same_after (x ∷ xs) ys zs e = same_after xs ys zs (cc)

first_asks : (n : ℕ) (others : List (List ℕ)) (number status : ℕ) → FirstAsks line_asked n others number status → IsAskedBy others number status
first_asks n [] number status a = a
first_asks n (line ∷ rest) number status a = as_parsed n line _ a

-- ---- the ends among the events of calls

module _ (Is : ℕ → ℕ → Type 0) where
  both_are : (xs ys : List Event) → EndsAre Is xs → EndsAre Is ys → EndsAre Is (xs ++ ys)
  both_are [] ys a b = b
  both_are (birth x ∷ xs) ys a b = both_are xs ys a b
  both_are (ends number status ∷ xs) ys a b = (a.0, both_are xs ys a.1 b)

  births_end_nothing : (bs : List Birth) → EndsAre Is (map birth bs)
  births_end_nothing [] = tt
  births_end_nothing (b ∷ bs) = births_end_nothing bs

  events_are : (ledger : PlainLedger) (calls : List Moved) → AllEndsAre Is calls → EndsAre Is (events_of ledger calls)
  events_are ledger [] a = tt
  events_are ledger (m ∷ calls) a =
      both_are (map birth (births_added ledger m.ledger) ++ m.ended) (events_of m.ledger calls)
      (both_are (map birth (births_added ledger m.ledger)) m.ended (births_end_nothing (births_added ledger m.ledger)) a.0) (events_are m.ledger calls a.1)

module _ (setting : Setting) (all_looked : AllLooked) (law : CallsAddEvents setting) where
  abbrev Goes : (ℕ → ℕ → Type 0) → RunState → RunState → Type 0
  Goes Is s t = ProceedsBy Is (notes_of setting.players) s.world.process.ledger (lists_of s.slots) t.world.process.ledger (lists_of t.slots)

  -- lines, and then calls
  lines_then : (Is : ℕ → ℕ → Type 0) (m : ℕ) (s t u : RunState) (input : List ℕ) (others : List (List ℕ)) (p q : SinkState)
      → LinesServed setting 0 m s t input others p q → (g : Goes Is t u)
      → AddsEvents (notes_of setting.players) (line_events setting s (take m (lines_of input)) ++ events_of t.world.process.ledger g.went.calls) s u
  lines_then Is m s t u input others p q w g = λ events stand.
      let front = lines_stand setting law w.served m s t w.text w.lead events stand in
      let whole = law (notes_of setting.players) 17 g.went.calls t.world.process.ledger (lists_of t.slots) (events ++ line_events setting s w.served) front
      g.went.moves in
      rw (
        first_lines setting m s t input others p q all_looked w,
        ← append_assoc events (line_events setting s w.served)
            (events_of t.world.process.ledger g.went.calls),
      )
      (rw (g.went.ledger, g.went.lists_are) at whole)

  pub cut_short : (status : Code) (m : ℕ) (s t u : RunState) (input text : List ℕ) (p q : SinkState)
      → Broken looked line_asked script_step setting 0 m s t input p q
      → Goes (IsStatusOf status) t u → q.written ≡ p.written ++ text → EventsUntilCut setting status m s u input text
  cut_short status m s t u input text p q b closing written =
      let others : List (List ℕ) = drop m (lines_of input) in
      let followed : others ≡ b.others = last_lines setting m s b.middle input b.others p b.sink all_looked b.served in
      let line : Goes (IsLaterEnd status others) b.middle t = proceeds_so (FirstAsks line_asked m b.others) (IsLaterEnd status others)
      (λ number ended a. inl (rw followed (first_asks m b.others number ended a))) _ _ _ _ _ b.later in
      let last : Goes (IsLaterEnd status others) t u = proceeds_so (IsStatusOf status) (IsLaterEnd status others) (λ number ended h. inr h) _ _ _ _ _ closing in
      let all : Goes (IsLaterEnd status others) b.middle u = goes_on (IsLaterEnd status others) (notes_of setting.players) _ _ _ _ _ _ line last in
      let w = b.served in
      record {
        middle = b.middle;
        whole = w.text;
        part = b.part;
        run = rw (first_lines setting m s b.middle input b.others p b.sink all_looked w) (lead_runs setting w.served 0 m s b.middle w.text w.lead);
        parts = same_after p.written text (w.text ++ b.part) (sym written ∙ b.written ∙ ap (λ (x : List ℕ). x ++ b.part) w.written
            ∙ append_assoc p.written w.text b.part);
        later = events_of b.middle.world.process.ledger all.went.calls;
        ends_are = events_are (IsLaterEnd status others) b.middle.world.process.ledger all.went.calls all.ends_are;
        stand = lines_then (IsLaterEnd status others) m s b.middle u input b.others p b.sink w all;
      }

  pub cut_after : (status stopped : Code) (m : ℕ) (s t v : RunState) (ledger : PlainLedger) (lists : Lists) (input : List ℕ) (p q : SinkState)
      → (others : List (List ℕ)) × LinesServed setting 0 m s t input others p q
      → ProceedsBy (IsStatusOf status) (notes_of setting.players) t.world.process.ledger (lists_of t.slots) ledger lists
      → ProceedsBy (IsStatusOf stopped) (notes_of setting.players) ledger lists v.world.process.ledger (lists_of v.slots)
      → EventsAfterLines setting status stopped m s v input
  cut_after status stopped m s t v ledger lists input p q w a b =
      let Is : ℕ → ℕ → Type 0 = λ (number : ℕ) (ended : ℕ). IsStatusOf status number ended ⊎ IsStatusOf stopped number ended in
      let all : Goes Is t v = goes_on Is (notes_of setting.players) _ _ _ _ _ _ (proceeds_so (IsStatusOf status) Is (λ number ended h. inl h) _ _ _ _ _ a)
      (proceeds_so (IsStatusOf stopped) Is (λ number ended h. inr h) _ _ _ _ _ b) in
      record {
        later = events_of t.world.process.ledger all.went.calls;
        ends_are = events_are Is t.world.process.ledger all.went.calls all.ends_are;
        stand = lines_then Is m s t v input w.0 p q w.1 all;
      }
