-- Transactions that are ended and reported one after another.
use Rattle.std.proofs.Common.{◌≡◌, ℕ, ◌+◌, ◌≤◌, map, true, false, List, [], ◌∷◌, ◌++◌, length, Ok, Err, refl, sym, ap, ◌∙◌, append_assoc}
use Rattle.std.proofs.Common.{append-nil, length-append, arith}
use Rattle.pam_base.specs.declared.code.Code.{Code}
use Rattle.pam_outside.specs.Streams.{SinkState}
use Rattle.report_step.specs.pam_room.specs.Module.{Player}
use Rattle.report_step.specs.pam_library.specs.Slots.{NoneIsOpen}
use Rattle.record_reader.specs.declared.ending.Stop.{Stop}
use Rattle.record_reader.specs.declared.ending.Stop.TheVariants.{NoMemory, WriteFault}
use Rattle.report_step.specs.dispatch_core.specs.Lines.{names_of}
use Rattle.report_step.specs.Closing.{closing_text}
use Rattle.cmd_run.specs.State.{RunState}
use Rattle.cmd_run.specs.Closings.{Closing, EndsNext, closings_text, last_state, text_of_end}
use Rattle.cmd_run.specs.Report.{WritesReport}
use Rattle.cmd_run.specs.Reported.{ClosesNext, Closes, wrapped_closing, wrapped_closings}
use Rattle.cmd_run.proofs.Lowest.{closings_none}

text-append : (xs ys : List Closing) → closings_text (xs ++ ys) ≡ closings_text xs ++ closings_text ys
text-append [] ys = refl
text-append (c ∷ xs) ys = ap (λ (t : List ℕ). c.text ++ t) (text-append xs ys) ∙ sym (append_assoc c.text (closings_text xs) (closings_text ys))

last-append : (s : RunState) (xs : List Closing) (c : Closing) → last_state s (xs ++ c ∷ []) ≡ c.state
last-append s [] c = refl
last-append s (x ∷ xs) c = last-append x.state xs c

module _ (wrapped : List ℕ → List ℕ) (players : List Player) (status : Code) where
  -- ---- one of them

  as_text_of_end : (number : ℕ) (s t : RunState) (text : List ℕ) (names : List (List ℕ)) (filed : ℕ)
      → text ≡ closing_text names number status t.world.process.ledger filed → names ≡ names_of players
      → filed ≡ length s.world.process.ledger.filed → text ≡ text_of_end players status number s.world t.world
  as_text_of_end number s t text names filed e n f = rw (← n, ← f) e

  wrapped_first : (number : ℕ) (s t : RunState) → EndsNext players status number s t
      → wrapped_closings wrapped players status s ≡ record { text = wrapped (text_of_end players status number s.world t.world); state = t }
      ∷ wrapped_closings wrapped players status t
  wrapped_first number s t e = ap (map (wrapped_closing wrapped)) e.first

  -- an allocation for it failed
  pub one_unwritten : (number : ℕ) (s t : RunState) (p : SinkState) → EndsNext players status number s t
      → ClosesNext wrapped players status (Err NoMemory) s t p p
  one_unwritten number s t p e = (
    [],
    record {
      text = wrapped (text_of_end players status number s.world t.world);
      first = wrapped_first number s t e;
      written = sym (append-nil p.written);
      calls = omega arith;
    },
    refl,
  )

  -- it was ended, and its lines were to be written
  module _ (number : ℕ) (s t : RunState) (text : List ℕ) (names : List (List ℕ)) (filed : ℕ) (p q : SinkState) (e : EndsNext players status number s t)
      (is : text ≡ closing_text names number status t.world.process.ledger filed) (n : names ≡ names_of players)
      (f : filed ≡ length s.world.process.ledger.filed) where
    whole : wrapped text ≡ wrapped (text_of_end players status number s.world t.world)
    whole = ap wrapped (as_text_of_end number s t text names filed is n f)

    pub one_written : (u : Unit {0}) → WritesReport (Ok u) (wrapped text) p q → ClosesNext wrapped players status (Ok true) s t p q
    one_written u w =
        (w.front, record { text = wrapped text; first = rw whole (wrapped_first number s t e); written = w.written; calls = w.calls }, sym w.all, w.calls_ok)

    pub one_stopped : (stop : Stop) → WritesReport (Err stop) (wrapped text) p q → ClosesNext wrapped players status (Err stop) s t p q
    one_stopped WriteFault (failed, w) =
        (w.front, record { text = wrapped text; first = rw whole (wrapped_first number s t e); written = w.written; calls = w.calls }, (w.back, w.parts))
    one_stopped NoMemory same = rw same (one_unwritten number s t p e)

  pub none_left : (s t : RunState) (p : SinkState) → NoneIsOpen s.slots → t ≡ s → ClosesNext wrapped players status (Ok false) s t p p
  none_left s t p none same = (ap (map (wrapped_closing wrapped)) (closings_none players status s.slots s.world none), same, refl)

  -- ---- some of them

  pub record ClosesSome (s t : RunState) (old new : SinkState) : Type 0 where
    pub whole : List Closing
    pub among : wrapped_closings wrapped players status s ≡ whole ++ wrapped_closings wrapped players status t
    pub at : last_state s whole ≡ t
    pub written : new.written ≡ old.written ++ closings_text whole
    pub calls : new.calls ≤ old.calls + length (closings_text whole)

  pub none_yet : (s : RunState) (p : SinkState) → ClosesSome s s p p
  none_yet s p = record { whole = []; among = refl; at = refl; written = sym (append-nil p.written); calls = omega arith }

  module _ (s t u : RunState) (p q r : SinkState) (a : ClosesSome s t p q) where
    text_with : (c : Closing) → closings_text (a.whole ++ c ∷ []) ≡ closings_text a.whole ++ c.text
    text_with c = text-append a.whole (c ∷ []) ∙ ap (λ (x : List ℕ). closings_text a.whole ++ x) (append-nil c.text)

    pub one_more : ClosesNext wrapped players status (Ok true) t u q r → ClosesSome s u p r
    one_more n =
        let c : Closing = record { text = n.1.text; state = u } in
        let text : closings_text (a.whole ++ c ∷ []) ≡ closings_text a.whole ++ n.0 = text_with c ∙ ap (λ (x : List ℕ). closings_text a.whole ++ x) n.2 in
        record {
          whole = a.whole ++ c ∷ [];
          among = a.among ∙ ap (λ (x : List Closing). a.whole ++ x) n.1.first ∙ sym (append_assoc a.whole (c ∷ []) (wrapped_closings wrapped players status u));
          at = last-append s a.whole c;
          written = rw text (n.1.written ∙ ap (λ (x : List ℕ). x ++ n.0) a.written ∙ append_assoc p.written (closings_text a.whole) n.0);
          calls = rw text (omega (arith, a.calls, n.3, length-append (closings_text a.whole) n.0));
        }

    pub no_more : (done : Unit {0}) → ClosesNext wrapped players status (Ok false) t u q r → Closes wrapped players status (Ok done) s u p r
    no_more done n =
        let same : closings_text a.whole ++ [] ≡ closings_text a.whole = append-nil (closings_text a.whole) in
        record {
          whole = a.whole;
          others = [];
          among = a.among ∙ ap (λ (x : List Closing). a.whole ++ x) n.0;
          part = [];
          written = rw (same, n.2) a.written;
          to = (refl, refl, n.1 ∙ sym a.at);
          calls = rw (same, n.2) (omega (arith, a.calls));
          calls_ok = rw (same, n.2) a.calls;
        }

    pub stops_in_one : (stop : Stop) → ClosesNext wrapped players status (Err stop) t u q r → Closes wrapped players status (Err stop) s u p r
    stops_in_one stop n = record {
      whole = a.whole;
      others = record { text = n.1.text; state = u } ∷ wrapped_closings wrapped players status u;
      among = a.among ∙ ap (λ (x : List Closing). a.whole ++ x) n.1.first;
      part = n.0;
      written = n.1.written ∙ ap (λ (x : List ℕ). x ++ n.0) a.written ∙ append_assoc p.written (closings_text a.whole) n.0;
      to = (n.2, refl);
      calls = omega (arith, a.calls, n.1.calls, length-append (closings_text a.whole) n.0);
      calls_ok = tt;
    }
