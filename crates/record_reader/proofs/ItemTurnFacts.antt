-- One item: finding it and applying it is one turn.
use Rattle.std.proofs.Common.{◌≡◌, ℕ, ◌+◌, ◌≤◌, ◌⊎◌, inl, inr, Bool, true, false, List, [], ◌∷◌, ◌++◌, length, take, drop, Option, Some, None, Result, Ok, Err, refl, sym, ap, subst, ◌∙◌, arith}
use Rattle.std.proofs.lemmas.List.{append-nil}
use Rattle.std.specs.Prelude.{OnOk}
use Rattle.pam_base.specs.declared.fault.Failed.{Failed}
use Rattle.pam_outside.specs.Streams.{SourceState, SinkState}
use Rattle.record_reader.specs.declared.reader.NextItem.TheVariants.{Item, Rest, End}
use Rattle.record_reader.specs.declared.ending.Ending.TheVariants.{Done, ReadFault}
use Rattle.record_reader.specs.declared.ending.Stop.{Stop}
use Rattle.record_reader.specs.declared.ending.Stop.TheVariants.{NoMemory, WriteFault}
use Rattle.record_reader.specs.Cutting.{Cuts, Keeps}
use Rattle.record_reader.specs.Run.{Looks, Refuses, ItemFails, ItemStep, Run, come_to, after, run_items, run_of}
use Rattle.record_reader.specs.Taking.{Finds, IsFound, IsLast, LastGot}
use Rattle.record_reader.specs.Turns.{StopsAt, ServesItem, EndsBy, Tells, LastRead, Turns, place, after_item, after_rest, items_after, held_after}
use Rattle.record_reader.proofs.ItemSequenceFacts.{items-one}

module _ {State Kind : Type 0} (looked : Looks) (refuses : Refuses) (step : ItemStep State Kind) (Fails : ItemFails State) where
  -- there is nothing to process
  run-none : (n : ℕ) (c : State) (bytes : List ℕ) (ended : Bool) → looked n bytes ended ≡ [] → run_of looked step n c bytes ended ≡ come_to [] c n None
  unfolding run_of run_items
  run-none n c bytes ended e = ap (run_items step n c) e

  -- before the last read of a turn nothing was refused
  last_of : (n : ℕ) (c : State) (before got : List ℕ) → (got ≡ []) ⊎ LastGot looked n before got → (got ≡ []) ⊎ LastRead looked step n c before got
  last_of n c before got (inl none) = inl none
  last_of n c before got (inr l) = inr (record {
    early = l.early;
    late = l.late;
    parts = l.parts;
    room = l.room;
    accepted = ap (λ (r : Run State Kind). r.refused) (run-none n c (before ++ l.early) false l.waited);
  })

  -- ---- nothing was found

  pub fault_turn : (n : ℕ) (before held : List ℕ) (e : Failed) (c : State) (x y : SourceState) (p : SinkState) → IsFound looked (Err e) n held
      → Finds looked refuses (Err e) n before held x y → Turns looked step Fails (Ok (Some ReadFault)) (place n c before x p) (place n c held y p)
  fault_turn n before held e c x y p found f = record {
    got = f.got;
    text = [];
    source = f.source;
    sink = sym (append-nil p.written);
    tells = subst (λ (met : List ℕ). EndsBy looked step ReadFault n n c c met y.left []) f.held_is
        (record { ended = false; at_end = λ e. absurd cc; by = refl; run = run-none n c held false found });
    reads = f.calls;
    reads_on = λ e. absurd cc;
    ends = f.ends;
    ends_on = λ e. absurd cc;
    last = last_of n c before f.got f.last;
    calls = omega arith;
    calls_ok = omega arith;
  }

  pub end_turn : Cuts looked → (n : ℕ) (before held : List ℕ) (c : State) (x y : SourceState) (p : SinkState) → IsFound looked (Ok End) n held
      → Finds looked refuses (Ok End) n before held x y → Turns looked step Fails (Ok (Some Done)) (place n c before x p) (place n c held y p)
  end_turn cuts n before held c x y p none f =
      let r : run_of looked step n c held true ≡ come_to [] c n None = run-none n c held true (ap (λ (h : List ℕ). looked n h true) none ∙ cuts.none n true) in
      record {
        got = f.got;
        text = [];
        source = f.source;
        sink = sym (append-nil p.written);
        tells = subst (λ (met : List ℕ). EndsBy looked step Done n n c c met y.left []) f.held_is
            (record { ended = true; at_end = λ e. f.ended; by = refl; run = r });
        reads = f.calls;
        reads_on = λ e. absurd cc;
        ends = f.ends;
        ends_on = λ e. absurd cc;
        last = last_of n c before f.got f.last;
        calls = omega arith;
        calls_ok = omega arith;
      }

  -- ---- an item was found and applied

  accepted_of : (stop : Stop) (n : ℕ) (item : List ℕ) (c d : State) (written : List ℕ) → StopsAt step Fails stop n (Some item) c d written
      → (x : State × List ℕ) × (step n c item ≡ Ok x)
  accepted_of NoMemory n item c d written h = ((h.0.after, h.0.text), h.0.accepted)
  accepted_of WriteFault n item c d written h = ((d, h.text), h.applied)

  module _ (n item_size size : ℕ) (before held : List ℕ) (c d : State) (x y : SourceState) (p q : SinkState) (found : IsFound looked (Ok (Item item_size size)) n held) (f : Finds looked refuses (Ok (Item item_size size)) n before held x y) where
    first_held : looked n held false ≡ take item_size held ∷ looked (n + 1) (drop size held) false
    first_held =
        ap (λ (t : List ℕ). looked n t false) (sym (append-nil held)) ∙ found.seen [] false
        ∙ ap (λ (t : List ℕ). take item_size held ∷ looked (n + 1) t false) (append-nil (drop size held))

    whole : run_of looked step n c held false ≡ after n c (step n c (take item_size held)) (λ e. run_items step (n + 1) e (looked (n + 1) (drop size held) false))
    unfolding run_of run_items
    whole = ap (run_items step n c) first_held

    item_tells : (o : Result (Option Kind) Stop) (s : ServesItem step Fails o n (take item_size held) c d p q)
        → Tells looked step Fails (after_item o) n (items_after o n) c d held (held_after o size held) y.left s.text
    unfolding run_items
    item_tells (Ok None) s = record {
      served = take item_size held ∷ [];
      number = omega arith;
      among = found.seen;
      run = items-one step n c d (take item_size held) s.text s.served;
    }
    item_tells (Ok (Some k)) s = record {
      ended = false;
      at_end = λ e. absurd cc;
      by = tt;
      run = rw (s.served.1, s.served.2) (rw s.served.0 at whole);
    }
    item_tells (Err stop) s = elim s.served [
      | inl h ↦ record {
        served = [];
        begun = Some (take item_size held);
        number = omega arith;
        ended = false;
        at_end = λ e. absurd cc;
        others_met = looked (n + 1) (drop size held) false;
        among_met = first_held;
        others = looked (n + 1) (drop size held ++ y.left) true;
        among_all = found.seen y.left true;
        middle = c;
        whole = [];
        part = s.text;
        run = refl;
        parts = refl;
        stopped = h;
      }
      | inr h ↦ record {
        served = [];
        begun = None;
        number = omega arith;
        ended = false;
        at_end = λ e. absurd cc;
        others_met = looked n held false;
        among_met = refl;
        others = looked n (held ++ y.left) true;
        among_all = refl;
        middle = c;
        whole = [];
        part = s.text;
        run = refl;
        parts = refl;
        stopped = h;
      }
    ]

    calls_after : (o : Result (Option Kind) Stop) (a b : ℕ) → OnOk o (a ≤ b) → OnOk (after_item o) (a ≤ b)
    calls_after (Ok None) a b h = h
    calls_after (Ok (Some k)) a b h = h
    calls_after (Err stop) a b h = tt

    pub item_turn : (o : Result (Option Kind) Stop) → ServesItem step Fails o n (take item_size held) c d p q
        → Turns looked step Fails (after_item o) (place n c before x p) (place (items_after o n) d (held_after o size held) y q)
    item_turn o s = record {
      got = f.got;
      text = s.text;
      source = f.source;
      sink = s.written;
      tells = subst (λ (met : List ℕ). Tells looked step Fails (after_item o) n (items_after o n) c d met (held_after o size held) y.left s.text) f.held_is (item_tells o s);
      reads = omega (arith, f.calls);
      reads_on = λ e. omega (arith, f.calls);
      ends = omega (arith, f.ends);
      ends_on = λ e. omega (arith, f.ends);
      last = last_of n c before f.got f.last;
      calls = s.calls;
      calls_ok = calls_after o q.calls (p.calls + length s.text) s.calls_ok;
    }

  -- ---- the last item was found and applied

  module _ (keeps : Keeps looked refuses step) (n : ℕ) (before held : List ℕ) (c d : State) (x y : SourceState) (p q : SinkState) (found : IsFound looked (Ok Rest) n held) (f : Finds looked refuses (Ok Rest) n before held x y) where
    how : IsLast looked refuses n held y.left
    how = f.ended

    all : run_of looked step n c held how.ended ≡ after n c (step n c held) (λ d. come_to [] d (n + 1) None)
    unfolding run_of run_items
    all = ap (run_items step n c) how.seen

    fits : (s : State) (x : State × List ℕ) → step n s held ≡ Ok x → how.ended ≡ true
    fits s x e = elim how.fits [ inl end ↦ end | inr over ↦ absurd (keeps.refused n held over s x e) ]

    only : (left : List ℕ) → left ≡ [] → how.ended ≡ true → looked n (held ++ left) true ≡ held ∷ []
    only left none end = ap (λ (l : List ℕ). looked n (held ++ l) true) none ∙ ap (λ (l : List ℕ). looked n l true) (append-nil held) ∙ ap (looked n held) (sym end) ∙ how.seen

    rest_tells : (o : Result (Option Kind) Stop) (s : ServesItem step Fails o n held c d p q)
        → Tells looked step Fails (after_rest o) n (items_after o n) c d held held y.left s.text
    unfolding run_items
    rest_tells (Ok None) s = record {
      ended = how.ended;
      at_end = how.at_end;
      by = fits c _ s.served;
      run = rw (append-nil s.text) at (rw s.served at all);
    }
    rest_tells (Ok (Some k)) s =
        let same : come_to [] c n (Some k) ≡ come_to s.text d n (Some k) = rw (s.served.1, s.served.2) refl in
        record {
          ended = how.ended;
          at_end = how.at_end;
          by = tt;
          run = (rw s.served.0 at all) ∙ same;
        }
    rest_tells (Err stop) s = elim s.served [
      | inl h ↦
          let accepted = accepted_of stop n held c d s.text h in
          let last = fits c accepted.0 accepted.1 in
          record {
            served = [];
            begun = Some held;
            number = omega arith;
            ended = how.ended;
            at_end = how.at_end;
            others_met = [];
            among_met = how.seen;
            others = [];
            among_all = only y.left (how.at_end last) last;
            middle = c;
            whole = [];
            part = s.text;
            run = refl;
            parts = refl;
            stopped = h;
          }
      | inr h ↦ record {
        served = [];
        begun = None;
        number = omega arith;
        ended = how.ended;
        at_end = how.at_end;
        others_met = looked n held how.ended;
        among_met = refl;
        others = looked n (held ++ y.left) true;
        among_all = refl;
        middle = c;
        whole = [];
        part = s.text;
        run = refl;
        parts = refl;
        stopped = h;
      }
    ]

    not_on : (o : Result (Option Kind) Stop) {A : Type 0} → after_rest o ≡ Ok None → A
    not_on (Ok None) e = absurd cc
    not_on (Ok (Some k)) e = absurd cc
    not_on (Err stop) e = absurd cc

    rest_calls : (o : Result (Option Kind) Stop) (a b : ℕ) → OnOk o (a ≤ b) → OnOk (after_rest o) (a ≤ b)
    rest_calls (Ok None) a b h = h
    rest_calls (Ok (Some k)) a b h = h
    rest_calls (Err stop) a b h = tt

    pub rest_turn : (o : Result (Option Kind) Stop) → ServesItem step Fails o n held c d p q
        → Turns looked step Fails (after_rest o) (place n c before x p) (place (items_after o n) d held y q)
    rest_turn o s = record {
      got = f.got;
      text = s.text;
      source = f.source;
      sink = s.written;
      tells = subst (λ (met : List ℕ). Tells looked step Fails (after_rest o) n (items_after o n) c d met held y.left s.text) f.held_is (rest_tells o s);
      reads = f.calls;
      reads_on = λ e. not_on o e;
      ends = f.ends;
      ends_on = λ e. not_on o e;
      last = last_of n c before f.got f.last;
      calls = s.calls;
      calls_ok = rest_calls o q.calls (p.calls + length s.text) s.calls_ok;
    }
