-- What is ended and written after the items of a run.
use Rattle.std.proofs.Common.{◌≡◌, ℕ, ◌+◌, ◌≤◌, inl, inr, IsTrue, List, [], ◌∷◌, ◌++◌, length, Option, Some, None, Result, Ok, Err, refl}
use Rattle.std.proofs.Common.{sym, ap, ◌∙◌, append_assoc, append-nil, length-append, arith}
use Rattle.std.specs.Prelude.{is_some}
use Rattle.pam_base.specs.declared.fault.Failed.{Failed}
use Rattle.pam_outside.specs.Streams.{SourceState, SinkState, WritesWhole}
use Rattle.report_step.specs.pam_room.specs.Module.{Player}
use Rattle.report_step.specs.pam_library.specs.Slots.{NoneIsOpen}
use Rattle.record_reader.specs.declared.ending.Ending.{Ending}
use Rattle.record_reader.specs.declared.ending.Stop.{Stop}
use Rattle.record_reader.specs.declared.ending.Stop.TheVariants.{NoMemory, WriteFault}
use Rattle.record_reader.specs.Run.{ItemFails, ItemStep, Looks}
use Rattle.cmd_run.specs.State.{RunState, Setting}
use Rattle.cmd_run.specs.Asked.{Asking}
use Rattle.cmd_run.specs.Closings.{Closing, all_closed, closings_text}
use Rattle.cmd_run.specs.Endings.{ending_status, stop_status}
use Rattle.cmd_run.specs.Events.{TellsAll}
use Rattle.cmd_run.specs.Reading.{TakesBytes, WritesScript, WritesSome}
use Rattle.cmd_run.specs.Reported.{Closes, ClosesTo}
use Rattle.cmd_run.specs.Run.{ClosesBy, EndsTo, EndsWith, RunsOrStops, text_of}

module _ {Kind : Type 0} (wrapped : List ℕ → List ℕ) (last_text : Ending Kind → ℕ → Option (List ℕ)) (players : List Player) (ending : Ending Kind)
    (n : ℕ) where
  -- the run stopped in the implicit ends
  cut_short : (stop : Stop) (s t : RunState) (whole others : List Closing) (part : List ℕ)
      → ClosesTo wrapped players (ending_status ending) (Err stop) s t whole others part
      → EndsTo wrapped last_text players ending n (Err stop) s t whole others part
  cut_short stop s t whole [] part h = absurd h
  cut_short stop s t whole (c ∷ cs) part h = h

  pub stopped_closing : (stop : Stop) (s t : RunState) (p q : SinkState) → Closes wrapped players (ending_status ending) (Err stop) s t p q
      → EndsWith wrapped last_text players ending n (Err stop) s t p q
  stopped_closing stop s t p q c = record {
    whole = c.whole;
    others = c.others;
    among = c.among;
    part = c.part;
    written = c.written;
    to = cut_short stop s t c.whole c.others c.part c.to;
    calls = c.calls;
    calls_ok = tt;
  }

  -- all are ended, and nothing comes after them
  pub nothing_last : (s t : RunState) (p q : SinkState) (done u : Unit {0}) → Closes wrapped players (ending_status ending) (Ok done) s t p q
      → last_text ending n ≡ None
      → EndsWith wrapped last_text players ending n (Ok u) s t p q
  nothing_last s t p q done u c is = record {
    whole = c.whole;
    others = c.others;
    among = c.among;
    part = c.part;
    written = c.written;
    to = (c.to.0, c.to.1 ∙ sym (ap text_of is), c.to.2);
    calls = c.calls;
    calls_ok = c.calls_ok;
  }

  -- all are ended, and then comes the last text
  module _ (s t : RunState) (p q r : SinkState) (done : Unit {0}) (c : Closes wrapped players (ending_status ending) (Ok done) s t p q) where
    closed_text : closings_text c.whole ++ c.part ≡ closings_text c.whole
    closed_text = ap (λ (x : List ℕ). closings_text c.whole ++ x) c.to.1 ∙ append-nil (closings_text c.whole)

    followed : (part : List ℕ) → r.written ≡ q.written ++ part → r.written ≡ p.written ++ (closings_text c.whole ++ part)
    followed part w = w ∙ ap (λ (x : List ℕ). x ++ part) (c.written ∙ ap (λ (x : List ℕ). p.written ++ x) closed_text)
        ∙ append_assoc p.written (closings_text c.whole) part

    counted : (part : List ℕ) → r.calls ≤ q.calls + length part + 1 → r.calls ≤ p.calls + length (closings_text c.whole ++ part) + 1
    counted part w =
        let ok : q.calls ≤ p.calls + length (closings_text c.whole) = rw closed_text at c.calls_ok in
        omega (arith, ok, w, length-append (closings_text c.whole) part)

    counted_ok : (part : List ℕ) → r.calls ≤ q.calls + length part → r.calls ≤ p.calls + length (closings_text c.whole ++ part)
    counted_ok part w =
        let ok : q.calls ≤ p.calls + length (closings_text c.whole) = rw closed_text at c.calls_ok in
        omega (arith, ok, w, length-append (closings_text c.whole) part)

    pub last_written : (u : Unit {0}) (text : List ℕ) → last_text ending n ≡ Some text → WritesWhole {T = Unit {0}} (Ok u) text q r
        → EndsWith wrapped last_text players ending n (Ok u) s t p r
    last_written u text is w = record {
      whole = c.whole;
      others = c.others;
      among = c.among;
      part = w.front;
      written = followed w.front w.written;
      to = (c.to.0, w.all ∙ sym (ap text_of is), c.to.2);
      calls = counted w.front w.calls;
      calls_ok = counted_ok w.front w.calls_ok;
    }

    is_there : (text : List ℕ) → last_text ending n ≡ Some text → IsTrue (is_some (last_text ending n))
    is_there text is = ap (λ (o : Option (List ℕ)). is_some o) is

    pub last_cut : (failed : Failed) (text : List ℕ) → NoneIsOpen t.slots → last_text ending n ≡ Some text
        → WritesWhole {T = Unit {0}} (Err failed) text q r → EndsWith wrapped last_text players ending n (Err WriteFault) s t p r
    last_cut failed text none is w = record {
      whole = c.whole;
      others = [];
      among = rw c.to.0 at c.among;
      part = w.front;
      written = followed w.front w.written;
      to = (is_there text is, (w.back, ap text_of is ∙ w.parts), c.to.2, none);
      calls = counted w.front w.calls;
      calls_ok = tt;
    }

  -- an allocation for it failed
  pub last_unwritten : (s t : RunState) (p q : SinkState) (done : Unit {0}) → Closes wrapped players (ending_status ending) (Ok done) s t p q
      → NoneIsOpen t.slots → IsTrue (is_some (last_text ending n)) → EndsWith wrapped last_text players ending n (Err NoMemory) s t p q
  last_unwritten s t p q done c none there = record {
    whole = c.whole;
    others = [];
    among = rw c.to.0 at c.among;
    part = [];
    written = rw c.to.1 at c.written;
    to = (there, refl, c.to.2, none);
    calls = rw c.to.1 at c.calls;
    calls_ok = tt;
  }

-- what a run wrote whose items were served
pub run_written : {Kind : Type 0} (wrapped : List ℕ → List ℕ) (last_text : Ending Kind → ℕ → Option (List ℕ)) (players : List Player) (ending : Ending Kind)
    (n : ℕ) (result : Result (Unit {0}) Stop) (s t : RunState) (p q r : SinkState)
    → WritesSome {T = Ending Kind} (Ok ending) p q → EndsWith wrapped last_text players ending n result s t q r → WritesScript p r
run_written wrapped last_text players ending n result s t p q r a b =
    let words : List ℕ = closings_text b.whole ++ b.part in
    record {
      text = a.text ++ words;
      written = b.written ∙ ap (λ (x : List ℕ). x ++ words) a.written ∙ append_assoc p.written a.text words;
      calls = omega (arith, a.calls_ok, b.calls, length-append a.text words);
    }

-- ---- the whole run

module _ {Kind : Type 0} (looked : Looks) (asked : Asking Kind) (wrapped : List ℕ → List ℕ) (last_text : Ending Kind → ℕ → Option (List ℕ))
    (step : Setting → ItemStep RunState Kind)
    (fails : Setting → ItemFails RunState) (setting : Setting) (start : RunState) (x y : SourceState) (p : SinkState) where
  pub runs_out : (ending : Ending Kind) (items : ℕ) (last end : RunState) (between q : SinkState)
      → TellsAll looked asked step fails setting (Ok ending) items start last x y p between → TakesBytes [] x y
      → length last.slots ≤ 16 → (done : Unit {0}) → EndsWith wrapped last_text setting.players ending items (Ok done) last end between q
      → RunsOrStops looked asked wrapped last_text step fails setting (Ok ending) start end x y p q
  runs_out ending items last end between q serves takes few done ends =
      record { items = items; last = last; between = between; serves = serves; takes = takes; few = few; ends = ends }

  pub stops_early : (stop : Stop) (items : ℕ) (last end : RunState) (q : SinkState)
      → TellsAll looked asked step fails setting (Err stop) items start last x y p q → TakesBytes [] x y
      → end ≡ all_closed setting.players (stop_status stop) last → ClosesBy setting.players (stop_status stop) last end
      → RunsOrStops looked asked wrapped last_text step fails setting (Err stop) start end x y p q
  stops_early stop items last end q serves takes closed closes = inl (record {
    items = items;
    last = last;
    serves = serves;
    takes = takes;
    stops = record { closed = closed; closes = closes };
  })

  pub stops_late : (stop : Stop) (ending : Ending Kind) (items : ℕ) (last middle end : RunState) (between q : SinkState)
      → TellsAll looked asked step fails setting (Ok ending) items start last x y p between
      → TakesBytes [] x y → EndsWith wrapped last_text setting.players ending items (Err stop) last middle between q
      → ClosesBy setting.players (ending_status ending) last middle
      → end ≡ all_closed setting.players (stop_status stop) middle → ClosesBy setting.players (stop_status stop) middle end
      → RunsOrStops looked asked wrapped last_text step fails setting (Err stop) start end x y p q
  stops_late stop ending items last middle end between q serves takes ends before closed closes = inr (record {
    ending = ending;
    items = items;
    last = last;
    middle = middle;
    between = between;
    serves = serves;
    takes = takes;
    ends = ends;
    closes = before;
    stops = record { closed = closed; closes = closes };
  })
