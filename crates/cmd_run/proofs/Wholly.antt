-- A whole run: its lines, and what is ended and written after them.
use Rattle.std.proofs.Common.{◌≡◌, ℕ, ◌+◌, ◌≤◌, inl, inr, true, List, [], ◌∷◌, ◌++◌, length, map, take, Ok, Err, refl, sym, ap, ◌∙◌}
use Rattle.std.proofs.Common.{append_assoc, append-nil, length-append, arith}
use Rattle.std.proofs.Math.Seq.{take-append_seam}
use Rattle.pam_base.specs.Lines.{lines_of}
use Rattle.pam_outside.specs.Streams.{SourceState, SinkState}
use Rattle.report_step.specs.pam_room.specs.Module.{Player, notes_of}
use Rattle.record_reader.specs.LineTurns.{Ending, Runs}
use Rattle.record_reader.specs.declared.ending.Stop.{Stop}
use Rattle.record_reader.specs.Turns.{begun_items}
use Rattle.record_reader.specs.Looked.{looked}
use Rattle.cmd_run.specs.State.{Setting, RunState}
use Rattle.cmd_run.specs.Step.{line_step, Fails}
use Rattle.cmd_run.specs.Events.{AddsEvents, EventsAfterLines, EventsUntilCut, run_events}
use Rattle.cmd_run.specs.Closings.{Closing, closings, closings_text, last_state, all_closed}
use Rattle.cmd_run.specs.Reported.{wrapped_closing, wrapped_closings}
use Rattle.cmd_run.specs.Run.{EndsTo, EndsWith}
use Rattle.cmd_run.specs.Script.{as_it_is}
use Rattle.cmd_run.specs.Whole.{ending_status, stop_status, last_line, last_words, script_last, StopsIn, StopsClosing, RunsScript}
use Rattle.cmd_run.proofs.ItemRequestFacts.{AllLooked}
use Rattle.cmd_run.proofs.Lowest.{none_left}

-- lines that are written as they are
as_they_are : (cs : List Closing) → map (wrapped_closing as_it_is) cs ≡ cs
as_they_are [] = refl
as_they_are (c ∷ cs) = ap (λ (x : List Closing). c ∷ x) (as_they_are cs)

module _ (players : List Player) (ending : Ending) (n : ℕ) where
  ended_as : (s : RunState) (whole others : List Closing) → wrapped_closings as_it_is players (ending_status ending) s ≡ whole ++ others
      → closings players (ending_status ending) s ≡ whole ++ others
  ended_as s whole others among = sym (as_they_are (closings players (ending_status ending) s)) ∙ among

  -- ---- the state after a stop

  ended_all : (s : RunState) (whole : List Closing) → closings players (ending_status ending) s ≡ whole ++ []
      → last_state s whole ≡ all_closed players (ending_status ending) s
  ended_all s whole e = ap (last_state s) (sym (append-nil whole) ∙ sym e)

  stops_in : (stop : Stop) (s t u : RunState) (whole others : List Closing) (part : List ℕ)
      → closings players (ending_status ending) s ≡ whole ++ others → EndsTo as_it_is script_last players ending n (Err stop) s t whole others part
      → u ≡ all_closed players (stop_status stop) t → StopsIn players stop ending n s u others part
  stops_in stop s t u whole [] part among to e = (to.1, e ∙ none_left players (stop_status stop) t.slots t.world to.3 ∙ to.2 ∙ ended_all s whole among)
  stops_in stop s t u whole (c ∷ cs) part among to e = (to.0, e ∙ ap (all_closed players (stop_status stop)) to.1)

  pub stops_closing : (stop : Stop) (s t u : RunState) (p q : SinkState) → (w : EndsWith as_it_is script_last players ending n (Err stop) s t p q)
      → u ≡ all_closed players (stop_status stop) t → StopsClosing players stop ending n s u (closings_text w.whole ++ w.part)
  stops_closing stop s t u p q w e =
      let among = ended_as s w.whole w.others w.among in
      record {
        whole = w.whole;
        others = w.others;
        among = among;
        part = w.part;
        written = refl;
        stopped = stops_in stop s t u w.whole w.others w.part among w.to e;
      }

  pub words_whole : (s t : RunState) (p q : SinkState) (done : Unit {0}) → (w : EndsWith as_it_is script_last players ending n (Ok done) s t p q)
      → closings_text w.whole ++ w.part ≡ last_words players ending n s
  words_whole s t p q done w =
      let all : w.whole ≡ closings players (ending_status ending) s = sym (append-nil w.whole) ∙ ap (λ (x : List Closing). w.whole ++ x) (sym w.to.0)
      ∙ sym (ended_as s w.whole w.others w.among) in
      ap (λ (x : List ℕ). closings_text w.whole ++ x) w.to.1 ∙ ap (λ (x : List Closing). closings_text x ++ last_line ending n) all

  pub all_ended : (s t : RunState) (p q : SinkState) (done : Unit {0}) → EndsWith as_it_is script_last players ending n (Ok done) s t p q
      → t ≡ all_closed players (ending_status ending) s
  all_ended s t p q done w = w.to.2 ∙ ended_all s w.whole (ended_as s w.whole [] (rw w.to.0 at w.among))

-- ---- the whole run

-- the items that the stream served are the first lines of the script
first_served : AllLooked → (n : ℕ) (input taken left : List ℕ) (served others : List (List ℕ)) → input ≡ taken ++ left → n ≡ 0 + length served
    → looked 0 (taken ++ left) true ≡ served ++ others
    → served ≡ take n (lines_of input)
first_served all n input taken left served others source number among =
    let count : n ≡ length served = omega (arith, number) in
    let whole : lines_of input ≡ served ++ others = ap lines_of source ∙ sym (all 0 (taken ++ left)) ∙ among in
    rw (count, whole) (sym (take-append_seam served others))

module _ (setting : Setting) (start : RunState) (x y : SourceState) (p q : SinkState) where
  -- it stopped among its lines
  pub stopped_lines : AllLooked → (stop : Stop) (n : ℕ) (t u : RunState) → Runs (line_step setting) (Fails setting) (Err stop) n start t x y p q
      → u ≡ all_closed setting.players (stop_status stop) t
      → ((text : List ℕ) → q.written ≡ p.written ++ text → EventsUntilCut setting (stop_status stop) n start u x.left text)
      → RunsScript setting (Err stop) start u x y p q
  stopped_lines all stop n t u r e stands = record {
    taken = r.taken;
    text = r.text;
    source = r.source;
    sink = r.sink;
    outcome = inl (record {
      lines = n;
      last = t;
      stops = r.report;
      first = first_served all n x.left r.taken y.left r.report.served (begun_items r.report.begun ++ r.report.others) r.source r.report.number
          (r.report.among_all ∙ append_assoc r.report.served (begun_items r.report.begun) r.report.others);
      closed = e;
      stands = stands r.text r.sink;
    });
    last = r.last;
    reads = r.reads;
    ends = r.ends;
    writes = r.writes;
  }

  module _ (ending : Ending) (n : ℕ) (s t : RunState) (z : SinkState) (r : Runs (line_step setting) (Fails setting) (Ok ending) n start s x y p q) where
    sink_is : (words : List ℕ) → z.written ≡ q.written ++ words → z.written ≡ p.written ++ (r.text ++ words)
    sink_is words w = w ∙ ap (λ (b : List ℕ). b ++ words) r.sink ∙ append_assoc p.written r.text words

    writes : (words : List ℕ) → z.calls ≤ q.calls + length words + 1 → z.calls ≤ p.calls + length (r.text ++ words) + 1
    writes words w = omega (arith, w, r.writes_ok, length-append r.text words)

    pub ended_run : (done : Unit {0}) → EndsWith as_it_is script_last setting.players ending n (Ok done) s t q z
        → ((t ≡ all_closed setting.players (ending_status ending) s) → AddsEvents (notes_of setting.players)
        (run_events setting (ending_status ending) start x.left n s) start t)
        → RunsScript setting (Ok ending) start t x y p z
    ended_run done w stands =
        let words = closings_text w.whole ++ w.part in
        record {
          taken = r.taken;
          text = r.text ++ words;
          source = r.source;
          sink = sink_is words w.written;
          outcome = record {
            lines = n;
            last = s;
            body = r.text;
            comes = r.report;
            whole = ap (λ (b : List ℕ). r.text ++ b) (words_whole setting.players ending n s t q z done w);
            closed = all_ended setting.players ending n s t q z done w;
            stands = stands (all_ended setting.players ending n s t q z done w);
          };
          last = r.last;
          reads = r.reads;
          ends = r.ends;
          writes = writes words w.calls;
        }

    pub stopped_after : (stop : Stop) (u : RunState) → EndsWith as_it_is script_last setting.players ending n (Err stop) s t q z
        → u ≡ all_closed setting.players (stop_status stop) t
        → EventsAfterLines setting (ending_status ending) (stop_status stop) n start u x.left → RunsScript setting (Err stop) start u x y p z
    stopped_after stop u w e stands =
        let words = closings_text w.whole ++ w.part in
        record {
          taken = r.taken;
          text = r.text ++ words;
          source = r.source;
          sink = sink_is words w.written;
          outcome = inr (record {
            ending = ending;
            lines = n;
            last = s;
            body = r.text;
            comes = r.report;
            words = words;
            written = refl;
            stops = stops_closing setting.players ending n stop s t u q z w e;
            stands = stands;
          });
          last = r.last;
          reads = r.reads;
          ends = r.ends;
          writes = writes words w.calls;
        }
