-- The reports of calls that the library made, one after another.
use Rattle.std.proofs.Common.{◌≡◌, inl, inr, ℕ, List, [], ◌∷◌, ◌++◌, Result, Ok, Err, refl, sym, ap, ◌∙◌, subst, append_assoc, append-nil}
use Rattle.std.proofs.lemmas.Grind.{flat_map-append}
use Rattle.data_cleanup.specs.Ledger.{PlainLedger}
use Rattle.pam_base.specs.declared.call.Step.{Step}
use Rattle.pam_outside.specs.Streams.{SinkState}
use Rattle.record_reader.specs.declared.ending.Stop.{Stop}
use Rattle.record_reader.specs.declared.ending.Stop.TheVariants.{NoMemory, WriteFault}
use Rattle.report_step.specs.Step.{step_text}
use Rattle.report_step.specs.pam_library.specs.AnyWorld.{AnswersBy, refusal}
use Rattle.report_step.specs.pam_library.specs.Outcome.{PlainOutcome}
use Rattle.report_step.specs.pam_library.specs.Slots.{PlainSlot, slot_at}
use Rattle.report_step.specs.pam_library.specs.Traced.{TracesAt}
use Rattle.cmd_run.specs.Made.{AreMade, Made, ReportsCalls, report_of, reports_of}
use Rattle.cmd_run.specs.Report.{WritesReport}

made_on_to : (slots middle next : List PlainSlot) (a b : List Made) → AreMade slots a middle → AreMade middle b next → AreMade slots (a ++ b) next
made_on_to slots middle next [] b x y = subst (λ (s : List PlainSlot). AreMade s b next) x y
made_on_to slots middle next (m ∷ a) b x y = (x.0, x.1, made_on_to m.next middle next a b x.2 y)

module _ (wrapped : List ℕ → List ℕ) (names : List (List ℕ)) where
  pub made_none : {T : Type 0} (t : T) (slots : List PlainSlot) (p : SinkState) → ReportsCalls wrapped names {T = T} (Ok t) slots slots p p
  made_none t slots p = record { made = []; middle = slots; are_made = refl; part = []; written = sym (append-nil p.written); to = (refl, refl) }

  pub made_broken : {T : Type 0} (stop : Stop) (slots next : List PlainSlot) (p : SinkState) → ReportsCalls wrapped names {T = T} (Err stop) slots next p p
  made_broken stop slots next p = record { made = []; middle = slots; are_made = refl; part = []; written = sym (append-nil p.written); to = inl refl }

  module _ (step : Step) (o : PlainOutcome) (ledger : PlainLedger) (slots next : List PlainSlot)
      (answers : AnswersBy (refusal (slot_at slots step.number) step.call) step.call o.answer)
      (traces : TracesAt step.call (slot_at slots step.number) (slot_at next step.number) o)
      (others : (number : ℕ) → (number ≡ step.number → ⊥) → slot_at next number ≡ slot_at slots number) (p q : SinkState) where
    abbrev call : Made
    call = record { step = step; outcome = o; ledger = ledger; slots = slots; next = next }

    abbrev text : List ℕ
    text = wrapped (step_text names step o ledger)

    pub made_one : {T : Type 0} (t : T) (u : Unit {0}) → WritesReport (Ok u) text p q → ReportsCalls wrapped names {T = T} (Ok t) slots next p q
    made_one t u w = record {
      made = call ∷ [];
      middle = next;
      are_made = (refl, record { answers = answers; traces = traces; others = others }, refl);
      part = [];
      written = w.written ∙ ap (λ (x : List ℕ). p.written ++ x) (w.all ∙ sym (append-nil (text ++ []) ∙ append-nil text));
      to = (refl, refl);
    }

    pub made_cut : {T : Type 0} (stop : Stop) → WritesReport (Err stop) text p q → ReportsCalls wrapped names {T = T} (Err stop) slots next p q
    made_cut WriteFault w = record {
      made = [];
      middle = slots;
      are_made = refl;
      part = w.1.front;
      written = w.1.written;
      to = inr (record {
        call = call;
        first = refl;
        last = refl;
        made = record { answers = answers; traces = traces; others = others };
        cut = (w.1.back, w.1.parts);
      });
    }
    made_cut {T} NoMemory same = subst (λ (s : SinkState). ReportsCalls wrapped names {T = T} (Err NoMemory) slots next p s) (sym same)
        (made_broken NoMemory slots next p)

    pub made_report : (result : Result (Unit {0}) Stop) → WritesReport result text p q → ReportsCalls wrapped names result slots next p q
    made_report (Ok done) w = made_one done done w
    made_report (Err stop) w = made_cut stop w

  pub made_ok_as : {T U : Type 0} (t : T) (u : U) (slots next : List PlainSlot) (p q : SinkState) → ReportsCalls wrapped names {T = T} (Ok t) slots next p q
      → ReportsCalls wrapped names {T = U} (Ok u) slots next p q
  made_ok_as t u slots next p q r = record { made = r.made; middle = r.middle; are_made = r.are_made; part = r.part; written = r.written; to = r.to }

  pub made_err_as : {T U : Type 0} (stop : Stop) (slots next : List PlainSlot) (p q : SinkState) → ReportsCalls wrapped names {T = T} (Err stop) slots next p q
      → ReportsCalls wrapped names {T = U} (Err stop) slots next p q
  made_err_as stop slots next p q r = record { made = r.made; middle = r.middle; are_made = r.are_made; part = r.part; written = r.written; to = r.to }

  -- one part after another
  joined : (w x y : List ℕ) (a b : List Made) → x ≡ [] → (w ++ (reports_of wrapped names a ++ x)) ++ (reports_of wrapped names b ++ y)
      ≡ w ++ (reports_of wrapped names (a ++ b) ++ y)
  joined w x y a b none =
      append_assoc w (reports_of wrapped names a ++ x) (reports_of wrapped names b ++ y)
      ∙ ap (λ (l : List ℕ). w ++ (l ++ (reports_of wrapped names b ++ y)))
      (ap (λ (l : List ℕ). reports_of wrapped names a ++ l) none ∙ append-nil (reports_of wrapped names a))
      ∙ ap (λ (l : List ℕ). w ++ l) (sym (append_assoc (reports_of wrapped names a) (reports_of wrapped names b) y))
      ∙ ap (λ (l : List ℕ). w ++ (l ++ y)) (sym (flat_map-append (report_of wrapped names) a b))

  pub made_on : {T U : Type 0} (t : T) (result : Result U Stop) (a b c : List PlainSlot) (p q r : SinkState) → ReportsCalls wrapped names {T = T} (Ok t) a b p q
      → ReportsCalls wrapped names {T = U} result b c q r
      → ReportsCalls wrapped names {T = U} result a c p r
  made_on t result a b c p q r x y = record {
    made = x.made ++ y.made;
    middle = y.middle;
    are_made = made_on_to a x.middle y.middle x.made y.made x.are_made (subst (λ (s : List PlainSlot). AreMade s y.made y.middle) x.to.0 y.are_made);
    part = y.part;
    written = y.written ∙ ap (λ (l : List ℕ). l ++ (reports_of wrapped names y.made ++ y.part)) x.written ∙ joined p.written x.part y.part x.made y.made x.to.1;
    to = y.to;
  }
