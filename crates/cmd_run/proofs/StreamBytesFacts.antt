-- What the bytes of a stream alone say about a run, and what was written.
use Rattle.std.proofs.Common.{◌≡◌, ℕ, ◌<◌, inl, inr, List, [], ◌++◌, length, drop, Some, None, Result, Ok, Err, refl, sym, ap, ◌∙◌}
use Rattle.std.proofs.Common.{append_assoc, append-nil, length-append, arith}
use Rattle.std.specs.Prelude.{All}
use Rattle.std.proofs.lemmas.List.Elements.{All-append, All-drop, All-same}
use Rattle.std.proofs.Math.Seq.{drop-append_seam}
use Rattle.pam_base.specs.declared.fault.Failed.{Failed}
use Rattle.pam_outside.specs.Streams.{SourceState, SinkState, WritesWhole}
use Rattle.script_lang.specs.declared.line.Line.{Line}
use Rattle.record_reader.specs.Looked.{looked}
use Rattle.record_reader.specs.LineTurns.{Ending}
use Rattle.record_reader.specs.declared.ending.Ending.TheVariants.{Done, ReadFault, Refused}
use Rattle.record_reader.specs.declared.ending.Stop.{Stop}
use Rattle.record_reader.specs.declared.ending.Stop.TheVariants.{NoMemory, WriteFault}
use Rattle.record_reader.specs.declared.reader.NextItem.{NextItem}
use Rattle.record_reader.specs.Run.{ItemFails, ItemStep, Looks, Refuses}
use Rattle.record_reader.specs.Taking.{Finds}
use Rattle.record_reader.specs.LineRun.{Run, step_at}
use Rattle.cmd_run.specs.Asked.{Asking}
use Rattle.cmd_run.specs.Serve.{Does}
use Rattle.cmd_run.specs.State.{RunState, Setting}
use Rattle.cmd_run.specs.Report.{WritesReport}
use Rattle.cmd_run.specs.Reading.{ReadsAll, ReadsItem, ReadsScript, TakesBytes, WritesScript, WritesSome, line_read, read_as}

-- ---- one item

module _ {Kind : Type 0} (asked : Asking Kind) (wrapped : List ℕ → List ℕ) (step : Setting → ItemStep RunState Kind)
    (fails : Setting → ItemFails RunState) (read_step : ItemStep (Unit {0}) Kind) (does : Does asked wrapped step fails read_step) (n : ℕ)
    (item : List ℕ) where
  as_asked : (r : Result Line Kind) → asked n item ≡ r → read_step n tt item ≡ read_as r
  as_asked r e = does.reads n item ∙ ap (λ (r : Result Line Kind). read_as r) e

  pub reads_accepted : (line : Line) → asked n item ≡ Ok line → ReadsItem read_step (Ok None) n item
  reads_accepted line e = record { text = []; written = refl; served = as_asked (Ok line) e; calls = omega arith; calls_ok = omega arith }

  pub reads_refused : (kind : Kind) → asked n item ≡ Err kind → ReadsItem read_step (Ok (Some kind)) n item
  reads_refused kind e = record { text = []; written = refl; served = (as_asked (Err kind) e, refl, refl); calls = omega arith; calls_ok = omega arith }

  pub reads_unbegun : ReadsItem read_step (Err NoMemory) n item
  reads_unbegun = record { text = []; written = refl; served = inr (refl, refl); calls = omega arith; calls_ok = tt }

  pub reads_stopped : (stop : Stop) (line : Line) → asked n item ≡ Ok line → ReadsItem read_step (Err stop) n item
  reads_stopped NoMemory line e = reads_unbegun
  reads_stopped WriteFault line e = record {
    text = [];
    written = refl;
    served = inl (record { text = []; applied = as_asked (Ok line) e; more = []; parts = refl });
    calls = omega arith;
    calls_ok = tt;
  }

-- ---- bytes that were taken

pub takes : (seen : Looks) (refuses : Refuses) (found : Result NextItem Failed) (n : ℕ) (before held : List ℕ) (x y : SourceState)
    → Finds seen refuses found n before held x y
    → All (λ b. b < 256) held → TakesBytes before x y
takes seen refuses found n before held x y f all = record {
  got = f.got;
  source = f.source;
  bytes = All-same (λ b. b < 256) (before ++ f.got) held (sym f.held_is) all;
}

pub takes_none : (x : SourceState) → TakesBytes [] x x
takes_none x = record { got = []; source = refl; bytes = λ k d lt. absurd (omega (arith, lt)) }

pub takes_on : (held : List ℕ) (x y z : SourceState) → TakesBytes [] x y → TakesBytes held y z → TakesBytes [] x z
takes_on held x y z a b = record {
  got = a.got ++ b.got;
  source = a.source ∙ ap (λ (l : List ℕ). a.got ++ l) b.source ∙ sym (append_assoc a.got b.got z.left);
  bytes = All-append (λ n. n < 256) a.got b.got a.bytes
      (All-same (λ n. n < 256) b.got (drop (length held) (held ++ b.got)) (sym (drop-append_seam held b.got))
      (All-drop (λ n. n < 256) (length held) (held ++ b.got) b.bytes));
}

-- ---- a run

pub script_read : (result : Result Ending Stop) (m : ℕ) (x y : SourceState) → ReadsAll looked (step_at line_read) result m x y → ReadsScript result x y
script_read (Ok Done) m x y r = record {
  taken = r.runs.taken;
  source = r.runs.source;
  reads = r.runs.reads;
  ends = r.runs.ends;
  by = (ap (λ (z : Run (Unit {0})). z.refused) r.runs.report.1, r.runs.report.0);
}
script_read (Ok ReadFault) m x y r = record {
  taken = r.runs.taken;
  source = r.runs.source;
  reads = r.runs.reads;
  ends = r.runs.ends;
  by = ap (λ (z : Run (Unit {0})). z.refused) r.runs.report;
}
script_read (Ok (Refused kind)) m x y r = record {
  taken = r.runs.taken;
  source = r.runs.source;
  reads = r.runs.reads;
  ends = r.runs.ends;
  by = ap (λ (z : Run (Unit {0})). z.refused) r.runs.report.0;
}
script_read (Err stop) m x y r = record { taken = r.runs.taken; source = r.runs.source; reads = r.runs.reads; ends = r.runs.ends; by = tt }

pub script_left : (ending : Ending) (stop : Stop) (m : ℕ) (x y : SourceState) → ReadsAll looked (step_at line_read) (Ok ending) m x y
    → ReadsScript (Err stop) x y
script_left ending stop m x y r = record { taken = r.runs.taken; source = r.runs.source; reads = r.runs.reads; ends = r.runs.ends; by = tt }

-- ---- what is written

pub ok_unwritten : {T : Type 0} (t : T) (p : SinkState) → WritesSome {T = T} (Ok t) p p
ok_unwritten t p = record { text = []; written = sym (append-nil p.written); calls = omega arith; calls_ok = omega arith }

pub err_unwritten : {T : Type 0} (stop : Stop) (p : SinkState) → WritesSome {T = T} (Err stop) p p
err_unwritten stop p = record { text = []; written = sym (append-nil p.written); calls = omega arith; calls_ok = tt }

pub all_written : {T : Type 0} (t : T) (u : Unit {0}) (text : List ℕ) (p q : SinkState) → WritesWhole {T = Unit {0}} (Ok u) text p q
    → WritesSome {T = T} (Ok t) p q
all_written t u text p q w = record { text = w.front; written = w.written; calls = w.calls; calls_ok = w.calls_ok }

pub front_written : {T : Type 0} (failed : Failed) (text : List ℕ) (p q : SinkState) → WritesWhole {T = Unit {0}} (Err failed) text p q
    → WritesSome {T = T} (Err WriteFault) p q
front_written failed text p q w = record { text = w.front; written = w.written; calls = w.calls; calls_ok = tt }

pub part_written : {T : Type 0} (stop : Stop) (text : List ℕ) (p q : SinkState) → WritesReport (Err stop) text p q → WritesSome {T = T} (Err stop) p q
part_written WriteFault text p q w = front_written w.0 text p q w.1
part_written NoMemory text p q same = rw same (err_unwritten NoMemory p)

pub report_written : (result : Result (Unit {0}) Stop) (text : List ℕ) (p q : SinkState) → WritesReport result text p q → WritesSome result p q
report_written (Ok done) text p q w = all_written done done text p q w
report_written (Err stop) text p q w = part_written stop text p q w

pub ok_as : {T U : Type 0} (t : T) (u : U) (p q : SinkState) → WritesSome {T = T} (Ok t) p q → WritesSome {T = U} (Ok u) p q
ok_as t u p q w = record { text = w.text; written = w.written; calls = w.calls; calls_ok = w.calls_ok }

pub err_as : {T U : Type 0} (stop : Stop) (p q : SinkState) → WritesSome {T = T} (Err stop) p q → WritesSome {T = U} (Err stop) p q
err_as stop p q w = record { text = w.text; written = w.written; calls = w.calls; calls_ok = tt }

pub ok_then : {T U V : Type 0} (t : T) (u : U) (v : V) (p q r : SinkState) → WritesSome {T = T} (Ok t) p q → WritesSome {T = U} (Ok u) q r
    → WritesSome {T = V} (Ok v) p r
ok_then t u v p q r a b = record {
  text = a.text ++ b.text;
  written = b.written ∙ ap (λ (x : List ℕ). x ++ b.text) a.written ∙ append_assoc p.written a.text b.text;
  calls = omega (arith, a.calls_ok, b.calls, length-append a.text b.text);
  calls_ok = omega (arith, a.calls_ok, b.calls_ok, length-append a.text b.text);
}

pub err_then : {T U V : Type 0} (t : T) (stop : Stop) (p q r : SinkState) → WritesSome {T = T} (Ok t) p q → WritesSome {T = U} (Err stop) q r
    → WritesSome {T = V} (Err stop) p r
err_then t stop p q r a b = record {
  text = a.text ++ b.text;
  written = b.written ∙ ap (λ (x : List ℕ). x ++ b.text) a.written ∙ append_assoc p.written a.text b.text;
  calls = omega (arith, a.calls_ok, b.calls, length-append a.text b.text);
  calls_ok = tt;
}

pub script_stopped : {T : Type 0} (stop : Stop) (p q : SinkState) → WritesSome {T = T} (Err stop) p q → WritesScript p q
script_stopped stop p q w = record { text = w.text; written = w.written; calls = w.calls }
