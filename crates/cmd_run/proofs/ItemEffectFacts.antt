-- What an item does, from what it asks for.
use Rattle.std.proofs.Common.{◌≡◌, ◌⊎◌, ℕ, ◌-◌, ◌<◌, Bool, true, false, ◌&&◌, List, [], length, take, cond, Option, Some, Result, Ok, Err, refl, sym, ap, subst}
use Rattle.std.proofs.Common.{◌∙◌, inl, inr, arith}
use Rattle.std.proofs.lemmas.List.{append-nil, length-take}
use Rattle.std.proofs.lemmas.Bool.{lt-ltb}
use Rattle.std.specs.List.{ends_with}
use Rattle.std.specs.Prelude.{codes, nat_eq}
use Rattle.pam_base.specs.declared.call.AppCall.{AppCall}
use Rattle.pam_base.specs.declared.call.Step.{Step}
use Rattle.pam_base.specs.declared.fault.ScriptKind.TheVariants.{LineTooLong}
use Rattle.report_step.specs.dispatch_core.specs.Lines.{names_of}
use Rattle.report_step.specs.pam_room.specs.Module.{Player}
use Rattle.report_step.specs.pam_room.specs.State.{PlainWorld}
use Rattle.report_step.specs.pam_library.specs.AnyWorld.{FailsAt, StopsAt}
use Rattle.report_step.specs.pam_library.specs.Outcome.{PlainOutcome}
use Rattle.report_step.specs.pam_library.specs.Slots.{PlainSlot}
use Rattle.report_step.specs.pam_library.specs.Step.{stepped, StepsAs}
use Rattle.script_lang.specs.declared.line.Line.{Line}
use Rattle.script_lang.specs.declared.line.Line.TheVariants as lines
use Rattle.script_lang.specs.Line.{without_return, parsed}
use Rattle.pam_outside.specs.Streams.{SinkState}
use Rattle.record_reader.specs.declared.ending.Stop.{Stop}
use Rattle.record_reader.specs.declared.ending.Stop.TheVariants.{NoMemory, WriteFault}
use Rattle.record_reader.specs.Run.{ItemFails, ItemStep}
use Rattle.record_reader.specs.Turns.{ServesItem}
use Rattle.report_step.specs.Step.{step_text}
use Rattle.cmd_run.specs.Asked.{Asking}
use Rattle.cmd_run.specs.Report.{WritesReport}
use Rattle.cmd_run.specs.Serve.{AppliesLine, Does, LineFails, item_result, served_line, written_for}
use Rattle.cmd_run.specs.State.{RunState, Setting, kept_at, state_of}
use Rattle.cmd_run.specs.Step.{CallFails, applied}
use Rattle.cmd_run.specs.Time.{kept}

-- ---- a line of more than 513 bytes is too long, whatever it ends with

without_by : (b : Bool) (line : List ℕ) → 513 < length line → 512 < length (cond b (take (length line - 1) line) line)
without_by true line lt = omega (arith, lt, length-take (length line - 1) line)
without_by false line lt = omega (arith, lt)

pub long_line : (line : List ℕ) → 513 < length line → parsed line ≡ Err LineTooLong
long_line line lt = rw (lt-ltb 512 (length (without_return line)) (without_by (ends_with nat_eq line (codes "\r")) line lt)) refl

-- ---- a call that ran out of memory, if all objects are modelled

pub failed_place : (a b : Bool) (call : AppCall) (old new : Option PlainSlot) → (a && b) ≡ true → FailsAt a call old new → FailsAt true call old new
failed_place true b call old new told fails = fails
failed_place false b call old new told fails = absurd cc

pub failed_stack : (players : List Player) (tells : Bool) (call : AppCall) (old new : Option PlainSlot) (w v : PlainWorld) → tells ≡ true
    → StopsAt players tells call old new w v → StopsAt players true call old new w v
failed_stack players tells call old new w v told stops = subst (λ (b : Bool). StopsAt players b call old new w v) told stops

-- ---- a line

as_told : {x y : RunState × List ℕ} → x ≡ y → (y.0 ≡ x.0) × (y.1 ≡ x.1)
as_told e = (ap (λ (z : RunState × List ℕ). z.0) (sym e), ap (λ (z : RunState × List ℕ). z.1) (sym e))

-- what a call did
call_applied : (setting : Setting) (s : RunState) (call : Step) (outcome : PlainOutcome) (slots : List PlainSlot) (world : PlainWorld) (names : List (List ℕ))
    → StepsAs (stepped setting.players setting.delay s.slots s.world call) outcome slots world → names ≡ names_of setting.players
    → applied setting s (lines.Step call) ≡ (state_of slots world, step_text names call outcome world.process.ledger)
call_applied setting s call outcome slots world names a m = rw (m, a.outcome_is, a.slots_is, a.world_is) refl

module _ (wrapped : List ℕ → List ℕ) (setting : Setting) where
  -- it has nothing to write
  silent : (line : Line) (done : Unit {0}) (s t : RunState) (p : SinkState) → t ≡ (applied setting s line).0
      → written_for wrapped line (applied setting s line).1 ≡ [] → AppliesLine wrapped setting line (Ok done) s t p p
  silent line done s t p is none = record {
    text = [];
    written = sym (append-nil p.written);
    by = (is, sym none);
    calls = omega arith;
    calls_ok = omega arith;
  }

  pub line_silent : (line this : Line) → line ≡ this → (done : Unit {0}) (s t : RunState) (p : SinkState) → t ≡ (applied setting s this).0
      → written_for wrapped this (applied setting s this).1 ≡ [] → AppliesLine wrapped setting line (Ok done) s t p p
  line_silent line this same done s t p is none =
      subst (λ (l : Line). AppliesLine wrapped setting l (Ok done) s t p p) (sym same) (silent this done s t p is none)

  -- it sets the clock, or the caller
  pub line_sets : (line this : Line) → line ≡ this → (done : Unit {0}) (s : RunState) (world past : PlainWorld) (p : SinkState)
      → (applied setting s this).0 ≡ state_of s.slots past → written_for wrapped this (applied setting s this).1 ≡ [] → world ≡ past
      → AppliesLine wrapped setting line (Ok done) s (state_of s.slots world) p p
  line_sets line this same done s world past p is none e =
      line_silent line this same done s (state_of s.slots world) p (ap (λ (w : PlainWorld). state_of s.slots w) e ∙ sym is) none

  -- its report is written, in full or not
  written : (line : Line) (result : Result (Unit {0}) Stop) (s t : RunState) (report : List ℕ) (p q : SinkState)
      → applied setting s line ≡ (t, report) → WritesReport result (written_for wrapped line report) p q → AppliesLine wrapped setting line result s t p q
  written line (Ok done) s t report p q e w = record {
    text = w.front;
    written = w.written;
    by = ((as_told e).0, w.all ∙ ap (λ (x : List ℕ). written_for wrapped line x) (as_told e).1);
    calls = w.calls;
    calls_ok = w.calls_ok;
  }
  written line (Err WriteFault) s t report p q e w = record {
    text = w.1.front;
    written = w.1.written;
    by = ((as_told e).0, w.1.back, ap (λ (x : List ℕ). written_for wrapped line x) (sym (as_told e).1) ∙ w.1.parts);
    calls = w.1.calls;
    calls_ok = tt;
  }
  written line (Err NoMemory) s t report p q e same = rw same (record {
    text = [];
    written = sym (append-nil p.written);
    by = (refl, inl (as_told e).0);
    calls = omega arith;
    calls_ok = tt;
  })

  pub line_called : (line : Line) (call : Step) → line ≡ lines.Step call → (result : Result (Unit {0}) Stop) (s : RunState) (outcome : PlainOutcome)
      (slots : List PlainSlot) (world : PlainWorld) (names : List (List ℕ)) (p q : SinkState)
      → StepsAs (stepped setting.players setting.delay s.slots s.world call) outcome slots world → names ≡ names_of setting.players
      → WritesReport result (wrapped (step_text names call outcome world.process.ledger)) p q
      → AppliesLine wrapped setting line result s (state_of slots world) p q
  line_called line call same result s outcome slots world names p q a m w = subst (λ (l : Line). AppliesLine wrapped setting l result s (state_of slots world) p q)
      (sym same) (written (lines.Step call) result s (state_of slots world) (step_text names call outcome world.process.ledger) p q
      (call_applied setting s call outcome slots world names a m) w)

  -- its call ran out of memory
  pub line_failed : (line : Line) (call : Step) → line ≡ lines.Step call → (s t : RunState) (p : SinkState) → CallFails setting call s t
      → AppliesLine wrapped setting line (Err NoMemory) s t p p
  line_failed line call same s t p fails = record {
    text = [];
    written = sym (append-nil p.written);
    by = (refl, inr (call, same, fails));
    calls = omega arith;
    calls_ok = tt;
  }

-- ---- an item

as_applied : {Kind : Type 0} (r : Result (RunState × List ℕ) Kind) (x t : RunState) (words text : List ℕ) → r ≡ Ok (x, words) → t ≡ x → text ≡ words → r ≡ Ok (t, text)
as_applied r x t words text e a b = rw (a, b) e

module _ {Kind : Type 0} (asked : Asking Kind) (wrapped : List ℕ → List ℕ) (step : Setting → ItemStep RunState Kind) (fails : Setting → ItemFails RunState)
    (read_step : ItemStep (Unit {0}) Kind) (does : Does asked wrapped step fails read_step) (setting : Setting) (n : ℕ) (s : RunState) (item : List ℕ) where
  as_served : (r : Result Line Kind) → asked n item ≡ r → step setting n s item ≡ served_line wrapped setting (kept_at setting n s) r
  as_served r e = does.steps setting n s item ∙ ap (λ (r : Result Line Kind). served_line wrapped setting (kept_at setting n s) r) e

  -- out of memory before it was begun
  pub item_unbegun : (p : SinkState) → ServesItem (step setting) (fails setting) (Err NoMemory) n item s s p p
  item_unbegun p = record { text = []; written = sym (append-nil p.written); served = inr (refl, refl); calls = omega arith; calls_ok = tt }

  pub item_refused : (kind : Kind) (p : SinkState) → asked n item ≡ Err kind → ServesItem (step setting) (fails setting) (Ok (Some kind)) n item s s p p
  item_refused kind p e = record {
    text = [];
    written = sym (append-nil p.written);
    served = (as_served (Err kind) e, refl, refl);
    calls = omega arith;
    calls_ok = omega arith;
  }

  -- as a line that is applied at the time of day
  module _ (line : Line) (e : asked n item ≡ Ok line) (t : RunState) (p q : SinkState) where
    abbrev last : RunState × List ℕ
    last = applied setting (kept_at setting n s) line

    step_is : step setting n s item ≡ Ok (last.0, written_for wrapped line last.1)
    step_is = as_served (Ok line) e

    begun : (t ≡ last.0) ⊎ LineFails setting line (kept_at setting n s) t → (t ≡ last.0) ⊎ fails setting n s item t
    begun (inl same) = inl same
    begun (inr f) = inr (does.fails_so setting n s t item f.0 (e ∙ ap (λ (l : Line). Ok l) f.1) f.2)

    applied_as : (result : Result (Unit {0}) Stop) → AppliesLine wrapped setting line result (kept_at setting n s) t p q
        → ServesItem (step setting) (fails setting) (item_result result) n item s t p q
    applied_as (Ok done) a = record {
      text = a.text;
      written = a.written;
      served = as_applied _ _ _ _ _ step_is a.by.0 a.by.1;
      calls = a.calls;
      calls_ok = a.calls_ok;
    }
    applied_as (Err WriteFault) a = record {
      text = a.text;
      written = a.written;
      served = inl (record {
        text = written_for wrapped line last.1;
        applied = as_applied _ _ _ _ _ step_is a.by.0 refl;
        more = a.by.1;
        parts = a.by.2;
      });
      calls = a.calls;
      calls_ok = tt;
    }
    applied_as (Err NoMemory) a = record {
      text = a.text;
      written = a.written;
      served = inl (record { after = last.0; text = written_for wrapped line last.1; accepted = step_is; state = begun a.by.1 }, a.by.0);
      calls = a.calls;
      calls_ok = tt;
    }

    pub item_applied : (world : PlainWorld) → world ≡ kept (setting.moments n) s.world → (result : Result (Unit {0}) Stop)
        → AppliesLine wrapped setting line result (state_of s.slots world) t p q
        → ServesItem (step setting) (fails setting) (item_result result) n item s t p q
    item_applied world same result a =
        applied_as result (subst (λ (w : PlainWorld). AppliesLine wrapped setting line result (state_of s.slots w) t p q) same a)
