-- Turns from the first byte on are a run.
use Rattle.std.proofs.Common.{◌≡◌, ℕ, ◌⊎◌, inl, inr, Bool, true, false, List, [], ◌++◌, Some, None, Result, Ok, Err, refl, sym, ap, ◌∙◌, arith}
use Rattle.std.proofs.lemmas.List.{append-nil}
use Rattle.std.specs.Prelude.{OnOk}
use Rattle.pam_outside.specs.Streams.{SourceState, SinkState}
use Rattle.record_reader.specs.declared.ending.Ending.{Ending}
use Rattle.record_reader.specs.declared.ending.Ending.TheVariants.{Done, ReadFault, Refused}
use Rattle.record_reader.specs.declared.ending.Stop.{Stop}
use Rattle.record_reader.specs.Run.{Looks, Refuses, ItemFails, ItemStep, Run, come_to, run_items, run_of}
use Rattle.record_reader.specs.Turns.{Tells, LastRead, Turns, place}
use Rattle.record_reader.specs.Whole.{at_last, Reports, Runs}
use Rattle.record_reader.specs.Cutting.{Cuts, Keeps}

module _ {State Kind : Type 0} (looked : Looks) (step : ItemStep State Kind) (Fails : ItemFails State) (refuses : Refuses) (cuts : Cuts looked) (keeps : Keeps looked refuses step) where
  -- what is refused among the bytes read is refused in the whole input
  refused_all : (ended : Bool) (kind : Kind) (m : ℕ) (c d : State) (input taken left text : List ℕ) → input ≡ taken ++ left → (ended ≡ true → left ≡ [])
      → run_of looked step 0 c taken ended ≡ come_to text d m (Some kind) → run_of looked step 0 c input true ≡ come_to text d m (Some kind)
  refused_all true kind m c d input taken left text i end run =
      let all : input ≡ taken = i ∙ ap (λ (l : List ℕ). taken ++ l) (end refl) ∙ append-nil taken in
      ap (λ (l : List ℕ). run_of looked step 0 c l true) all ∙ run
  refused_all false kind m c d input taken left text i end run =
      ap (λ (l : List ℕ). run_of looked step 0 c l true) i ∙ keeps.stays 0 c taken left true kind (ap (λ (r : Run State Kind). r.refused) run) ∙ run

  reports : (result : Result (Ending Kind) Stop) (m : ℕ) (c d : State) (input taken held left text : List ℕ) → input ≡ taken ++ left
      → Tells looked step Fails (at_last result) 0 m c d taken held left text → Reports looked step Fails result m c d input taken left text
  reports (Ok Done) m c d input taken held left text i t =
      let none = t.at_end t.by in
      let all : input ≡ taken = i ∙ ap (λ (l : List ℕ). taken ++ l) none ∙ append-nil taken in
      (none, ap (λ (l : List ℕ). run_of looked step 0 c l true) all ∙ ap (run_of looked step 0 c taken) (sym t.by) ∙ t.run)
  reports (Ok ReadFault) m c d input taken held left text i t = ap (run_of looked step 0 c taken) (sym t.by) ∙ t.run
  reports (Ok (Refused kind)) m c d input taken held left text i t =
      (refused_all t.ended kind m c d input taken left text i t.at_end t.run, t.ended, t.at_end, t.run)
  reports (Err stop) m c d input taken held left text i t = t

  none_refused : (c : State) → run_of looked step 0 c [] false ≡ come_to [] c 0 None
  unfolding run_of run_items
  none_refused c = ap (run_items step 0 c) (cuts.none 0 false)

  -- the last read of a run
  last_of_run : (c : State) (got : List ℕ) → (got ≡ []) ⊎ LastRead looked step 0 c [] got → LastRead looked step 0 c [] got
  last_of_run c got (inr l) = l
  last_of_run c got (inl none) = record {
    early = [];
    late = [];
    parts = none;
    room = omega arith;
    accepted = ap (λ (r : Run State Kind). r.refused) (none_refused c);
  }

  writes_at : (result : Result (Ending Kind) Stop) (A : Type 0) → OnOk (at_last result) A → OnOk result A
  writes_at (Ok ending) A h = h
  writes_at (Err stop) A h = tt

  pub turns_run : (result : Result (Ending Kind) Stop) (m : ℕ) (c d : State) (held : List ℕ) (x y : SourceState) (p q : SinkState)
      → Turns looked step Fails (at_last result) (place 0 c [] x p) (place m d held y q) → Runs looked step Fails result m c d x y p q
  turns_run result m c d held x y p q t = record {
    taken = t.got;
    text = t.text;
    source = t.source;
    sink = t.sink;
    report = reports result m c d x.left t.got held y.left t.text t.source t.tells;
    last = last_of_run c t.got t.last;
    reads = t.reads;
    ends = t.ends;
    writes = t.calls;
    writes_ok = writes_at result _ t.calls_ok;
  }
