-- Consecutive turns.
use Rattle.std.proofs.Common.{◌≡◌, ℕ, ◌+◌, ◌≤◌, ◌⊎◌, inl, inr, Bool, true, false, List, [], ◌++◌, length, Option, Some, None, Result, Ok, Err, refl, sym, ap, ◌∙◌, append_assoc, length-append, arith}
use Rattle.std.proofs.lemmas.List.{append-nil}
use Rattle.std.specs.Prelude.{OnOk}
use Rattle.pam_outside.specs.Streams.{SourceState, SinkState}
use Rattle.record_reader.specs.declared.ending.Ending.{Ending}
use Rattle.record_reader.specs.declared.ending.Stop.{Stop}
use Rattle.record_reader.specs.declared.ending.Stop.TheVariants.{NoMemory}
use Rattle.record_reader.specs.Run.{Looks, ItemFails, ItemStep, Run, with_text, run_items, run_of}
use Rattle.record_reader.specs.Turns.{GoesOn, EndsBy, StopsBy, Tells, LastRead, Turns, place, begun_items}
use Rattle.record_reader.proofs.ItemSequenceFacts.{items-append}

calls_both : {Kind : Type 0} (r : Result (Option (Ending Kind)) Stop) (p q s : ℕ) (a b : List ℕ) → q ≤ p + length a → OnOk r (s ≤ q + length b)
    → OnOk r (s ≤ p + length (a ++ b))
calls_both (Ok o) p q s a b f g = omega (arith, length-append a b)
calls_both (Err stop) p q s a b f g = tt

four : {A : Type 0} (a b c d rest : List A) → rest ≡ b ++ c ++ d → a ++ rest ≡ (a ++ b) ++ c ++ d
four a b c d rest e = rw e (sym (append_assoc a (b ++ c) d) ∙ ap (λ t. t ++ d) (sym (append_assoc a b c)))

module _ {State Kind : Type 0} (looked : Looks) (step : ItemStep State Kind) (Fails : ItemFails State) where
  -- before the first item
  pub no_turn : (c : State) (x : SourceState) (p : SinkState) → Turns looked step Fails (Ok None) (place 0 c [] x p) (place 0 c [] x p)
  unfolding run_items
  no_turn c x p = record {
    got = [];
    text = [];
    source = refl;
    sink = sym (append-nil p.written);
    tells = record { served = []; number = refl; among = λ more ended. refl; run = refl };
    reads = omega arith;
    reads_on = λ e. omega arith;
    ends = omega arith;
    ends_on = λ e. omega arith;
    last = inl refl;
    calls = omega arith;
    calls_ok = omega arith;
  }

  pub no_memory : (c : State) (x : SourceState) (p : SinkState) → Turns looked step Fails (Err NoMemory) (place 0 c [] x p) (place 0 c [] x p)
  unfolding run_items
  no_memory c x p = record {
    got = [];
    text = [];
    source = refl;
    sink = sym (append-nil p.written);
    tells = record {
      served = [];
      begun = None;
      number = refl;
      ended = false;
      at_end = λ e. absurd cc;
      others_met = looked 0 [] false;
      among_met = refl;
      others = looked 0 x.left true;
      among_all = refl;
      middle = c;
      whole = [];
      part = [];
      run = refl;
      parts = refl;
      stopped = (refl, refl);
    };
    reads = omega arith;
    reads_on = λ e. omega arith;
    ends = omega arith;
    ends_on = λ e. omega arith;
    last = inl refl;
    calls = omega arith;
    calls_ok = tt;
  }

  -- ---- some bytes were read and their items served, then others

  module _ (n m : ℕ) (c d : State) (met held text got : List ℕ) (a : GoesOn looked step n m c d met held text) where
    further : (more : List ℕ) (ended : Bool) → looked n ((met ++ got) ++ more) ended ≡ a.served ++ looked m ((held ++ got) ++ more) ended
    further more ended =
        ap (λ (z : List ℕ). looked n z ended) (append_assoc met got more) ∙ a.among (got ++ more) ended
        ∙ ap (λ (z : List ℕ). a.served ++ looked m z ended) (sym (append_assoc held got more))

    served_run : (ended : Bool) → run_of looked step n c (met ++ got) ended ≡ with_text text (run_of looked step m d (held ++ got) ended)
    unfolding run_of
    served_run ended = ap (run_items step n c) (a.among got ended) ∙ items-append step n c a.served (looked m (held ++ got) ended) text d m a.run

    goes_on : (k : ℕ) (e : State) (rest more_text : List ℕ) → GoesOn looked step m k d e (held ++ got) rest more_text
        → GoesOn looked step n k c e (met ++ got) rest (text ++ more_text)
    goes_on k e rest more_text b = record {
      served = a.served ++ b.served;
      number = omega (arith, a.number, b.number, length-append a.served b.served);
      among = λ more ended. further more ended ∙ ap (λ (z : List (List ℕ)). a.served ++ z) (b.among more ended) ∙ sym (append_assoc a.served b.served (looked k (rest ++ more) ended));
      run = items-append step n c a.served b.served text d m a.run ∙ ap (with_text text) b.run;
    }

    ends_by : (ending : Ending Kind) (k : ℕ) (e : State) (left more_text : List ℕ) → EndsBy looked step ending m k d e (held ++ got) left more_text
        → EndsBy looked step ending n k c e (met ++ got) left (text ++ more_text)
    ends_by ending k e left more_text b = record {
      ended = b.ended;
      at_end = b.at_end;
      by = b.by;
      run = served_run b.ended ∙ ap (with_text text) b.run;
    }

    stops_by : (stop : Stop) (k : ℕ) (e : State) (left more_text : List ℕ) → StopsBy looked step Fails stop m k d e (held ++ got) left more_text
        → StopsBy looked step Fails stop n k c e (met ++ got) left (text ++ more_text)
    stops_by stop k e left more_text b = record {
      served = a.served ++ b.served;
      begun = b.begun;
      number = omega (arith, a.number, b.number, length-append a.served b.served);
      ended = b.ended;
      at_end = b.at_end;
      others_met = b.others_met;
      among_met = a.among got b.ended ∙ four a.served b.served (begun_items b.begun) b.others_met _ b.among_met;
      others = b.others;
      among_all = further left true ∙ four a.served b.served (begun_items b.begun) b.others _ b.among_all;
      middle = b.middle;
      whole = text ++ b.whole;
      part = b.part;
      run = items-append step n c a.served b.served text d m a.run ∙ ap (with_text text) b.run;
      parts = ap (λ (t : List ℕ). text ++ t) b.parts ∙ sym (append_assoc text b.whole b.part);
      stopped = b.stopped;
    }

  tells_both : (n m k : ℕ) (c d e : State) (met held got rest left text more_text : List ℕ) (r : Result (Option (Ending Kind)) Stop)
      → GoesOn looked step n m c d met held text → Tells looked step Fails r m k d e (held ++ got) rest left more_text → Tells looked step Fails r n k c e (met ++ got) rest left (text ++ more_text)
  tells_both n m k c d e met held got rest left text more_text (Ok None) a b = goes_on n m c d met held text got a k e rest more_text b
  tells_both n m k c d e met held got rest left text more_text (Ok (Some ending)) a b = ends_by n m c d met held text got a ending k e left more_text b
  tells_both n m k c d e met held got rest left text more_text (Err stop) a b = stops_by n m c d met held text got a stop k e left more_text b

  -- the last read of two consecutive parts is that of the second part, if it read anything
  last_both : (n m : ℕ) (c d : State) (got held more text : List ℕ) → GoesOn looked step n m c d got held text
      → (got ≡ []) ⊎ LastRead looked step n c [] got → (more ≡ []) ⊎ LastRead looked step m d held more
      → (got ++ more ≡ []) ⊎ LastRead looked step n c [] (got ++ more)
  last_both n m c d got held more text a first (inr l) = inr (record {
    early = got ++ l.early;
    late = l.late;
    parts = ap (λ (t : List ℕ). got ++ t) l.parts ∙ sym (append_assoc got l.early l.late);
    room = l.room;
    accepted = ap (λ (r : Run State Kind). r.refused) (served_run n m c d got held text l.early a false) ∙ l.accepted;
  })
  last_both n m c d got held more text a (inl none) (inl no_more) = inl (rw (none, no_more) refl)
  last_both n m c d got held more text a (inr l) (inl no_more) = inr (record {
    early = l.early;
    late = l.late;
    parts = rw no_more (append-nil got ∙ l.parts);
    room = l.room;
    accepted = l.accepted;
  })

  pub turns_then : (r : Result (Option (Ending Kind)) Stop) (n m k : ℕ) (c d e : State) (held rest : List ℕ) (x y z : SourceState) (p q s : SinkState)
      → Turns looked step Fails (Ok None) (place n c [] x p) (place m d held y q) → Turns looked step Fails r (place m d held y q) (place k e rest z s) → Turns looked step Fails r (place n c [] x p) (place k e rest z s)
  turns_then r n m k c d e held rest x y z p q s a b = record {
    got = a.got ++ b.got;
    text = a.text ++ b.text;
    source = a.source ∙ ap (λ (t : List ℕ). a.got ++ t) b.source ∙ sym (append_assoc a.got b.got z.left);
    sink = b.sink ∙ ap (λ (t : List ℕ). t ++ b.text) a.sink ∙ append_assoc p.written a.text b.text;
    tells = tells_both n m k c d e a.got held b.got rest z.left a.text b.text r a.tells b.tells;
    reads = omega (arith, a.reads_on refl, b.reads, length-append a.got b.got);
    reads_on = λ h. let on = b.reads_on h in omega (arith, a.reads_on refl, on, length-append a.got b.got);
    ends = omega (arith, a.ends_on refl, b.ends);
    ends_on = λ h. let on = b.ends_on h in omega (arith, a.ends_on refl, on);
    last = last_both n m c d a.got held b.got a.text a.tells a.last b.last;
    calls = omega (arith, a.calls_ok, b.calls, length-append a.text b.text);
    calls_ok = calls_both r p.calls q.calls s.calls a.text b.text a.calls_ok b.calls_ok;
  }
