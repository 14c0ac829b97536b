-- A run by the steps that the bytes taken spell.
use Rattle.std.proofs.Common.{◌≡◌, ℕ, ◌+◌, ◌≤◌, ◌<◌, ◌⊎◌, inl, inr, Bool, true, false, List, [], ◌∷◌, ◌++◌, length, take, drop, map, Option}
use Rattle.std.proofs.Common.{Some, None, Result, Ok, Err, refl, sym, ap, subst, ◌∙◌, append_assoc, append-nil, arith}
use Rattle.std.proofs.lemmas.List.{append_cancel_right}
use Rattle.std.proofs.lemmas.List.Elements.{All-drop, All-same, All-take}
use Rattle.std.proofs.Math.Seq.{drop-append_seam, take-append_seam}
use Rattle.pam_base.specs.declared.call.Step.{Step}
use Rattle.pam_outside.specs.Counts.{RisesIf, Rose}
use Rattle.pam_outside.specs.Streams.{SourceState, SinkState}
use Rattle.pam_wire.specs.Frame.{AreBytes, frame_of, frames_of}
use Rattle.pam_wire.specs.Stream.{AreFramesOf}
use Rattle.record_reader.specs.declared.ending.Ending.{Ending}
use Rattle.record_reader.specs.declared.ending.Ending.TheVariants.{Done, ReadFault, Refused}
use Rattle.record_reader.specs.declared.ending.Stop.{Stop}
use Rattle.record_reader.specs.declared.ending.Stop.TheVariants.{NoMemory, WriteFault}
use Rattle.record_reader.specs.Run.{ItemFails, Run, after, come_to, run_items, run_of}
use Rattle.record_reader.specs.Turns.{EndsBy, StopsAt, begun_items, has_read_fault, has_write_fault, refusal_of}
use Rattle.record_reader.specs.Whole.{Reports, Runs}
use Rattle.frame_stream.specs.declared.fault.FrameFault.{FrameFault}
use Rattle.frame_stream.specs.Laws.{BytesSpell, RunIsOfSteps, ServedAreSteps}
use Rattle.frame_stream.specs.Looked.{looked}
use Rattle.frame_stream.specs.Run.{CallStep, step_at}
use Rattle.frame_stream.specs.Spelled.{Spells, answers_to, state_past}
use Rattle.cmd_run.specs.Closings.{Closing, all_closed, closings as reported, closings_text, last_state}
use Rattle.cmd_run.specs.Reading.{TakesBytes, AnyState, nowhere}
use Rattle.cmd_run.specs.State.{Setting, RunState}
use Rattle.cmd_wire.specs.Answered.{Closes, answered_closing, closings}
use Rattle.cmd_wire.specs.Endings.{ending_status, stop_status}
use Rattle.cmd_wire.specs.Reading.{LooksBefore, ReadsAll, ReadsFrames, SpellsTo, call_read}
use Rattle.cmd_wire.specs.Step.{answers, Fails}
use Rattle.cmd_wire.specs.Whole.{AnswersAll, Completes, IsCutIn, IsNextStep, StopsAmong, StopsAfter, ending_by}

-- ---- how a run over the bytes taken ended

module _ {State : Type 0} (answer : CallStep State) (Failing : ItemFails State) where
  -- the run over them, whether the input ended after them or not
  record IsRunOf (ending : Ending FrameFault) (m : ℕ) (c d : State) (taken left text : List ℕ) : Type 0 where
    spelled : SpellsTo ending taken left
    text_is : text ≡ answers_to answer 0 c spelled.steps
    state_is : d ≡ state_past answer 0 c spelled.steps

  module _ (spell : BytesSpell) (runs : RunIsOfSteps answer) where
    run_by : (ending : Ending FrameFault) (m : ℕ) (c d : State) (taken left text : List ℕ) → AreBytes taken
        → EndsBy looked (step_at answer) ending 0 m c d taken left text → IsRunOf ending m c d taken left text
    run_by ending m c d taken left text all e =
        let s = spell 0 taken e.ended (omega arith) all in
        let same : come_to (answers_to answer 0 c s.0) (state_past answer 0 c s.0) (0 + length s.0) s.2 ≡ come_to text d m (refusal_of ending) =
        sym (runs 0 c taken e.ended s.0 s.1 s.2 all s.3) ∙ e.run in
        record {
          spelled = record {
            ended = e.ended;
            at_end = e.at_end;
            by = e.by;
            steps = s.0;
            rest = s.1;
            spells = subst (λ (f : Option FrameFault). Spells taken e.ended s.0 s.1 f) (ap (λ (r : Run State FrameFault). r.refused) same) s.3;
          };
          text_is = sym (ap (λ (r : Run State FrameFault). r.text) same);
          state_is = sym (ap (λ (r : Run State FrameFault). r.last) same);
        }

    -- what is reported of the whole input is that of the bytes taken
    at_taken : (ending : Ending FrameFault) (m : ℕ) (c d : State) (input taken left text : List ℕ) → input ≡ taken ++ left
        → Reports looked (step_at answer) Failing (Ok ending) m c d input taken left text
        → EndsBy looked (step_at answer) ending 0 m c d taken left text
    at_taken Done m c d input taken left text parts r =
        let same : taken ≡ input = sym (append-nil taken) ∙ ap (λ (l : List ℕ). taken ++ l) (sym r.0) ∙ sym parts in
        record { ended = true; at_end = λ e. r.0; by = refl; run = ap (λ (b : List ℕ). run_of looked (step_at answer) 0 c b true) same ∙ r.1 }
    at_taken ReadFault m c d input taken left text parts r = record { ended = false; at_end = λ e. absurd (cc); by = refl; run = r }
    at_taken (Refused kind) m c d input taken left text parts r = record { ended = r.1; at_end = r.2; by = tt; run = r.3 }

    run_ended : (ending : Ending FrameFault) (m : ℕ) (c d : State) (x y : SourceState) (p q : SinkState)
        → (r : Runs looked (step_at answer) Failing (Ok ending) m c d x y p q) → AreBytes r.taken
        → IsRunOf ending m c d r.taken y.left r.text
    run_ended ending m c d x y p q r all = run_by ending m c d r.taken y.left r.text all (at_taken ending m c d x.left r.taken y.left r.text r.source r.report)

taken_bytes : (x y : SourceState) (taken : List ℕ) → x.left ≡ taken ++ y.left → TakesBytes [] x y → AreBytes taken
taken_bytes x y taken e t = All-same (λ b. b < 256) taken t.got (append_cancel_right taken t.got y.left (sym e ∙ t.source)) t.bytes

-- ---- by the bytes alone

module _ (spell : BytesSpell) (runs : RunIsOfSteps call_read) where
  spelled_of : (ending : Ending FrameFault) (m : ℕ) (x y : SourceState) → (r : ReadsAll (Ok ending) m x y) → TakesBytes [] x y → SpellsTo ending r.taken y.left
  spelled_of ending m x y r t = (run_ended call_read AnyState spell runs ending m tt tt x y nowhere nowhere r (taken_bytes x y r.taken r.source t)).spelled

  looks_before : (result : Result (Ending FrameFault) Stop) (m : ℕ) (x y : SourceState) → (r : ReadsAll result m x y) → AreBytes r.taken → LooksBefore r.taken
  looks_before result m x y r all =
      let l = r.last in
      let bytes : AreBytes l.early =
      All-same (λ b. b < 256) l.early (take (length l.early) r.taken) (sym (ap (take (length l.early)) l.parts ∙ take-append_seam l.early l.late))
      (All-take (λ b. b < 256) (length l.early) r.taken all) in
      let s = spell 0 l.early false (omega arith) bytes in
      let none : s.2 ≡ None = sym (ap (λ (z : Run (Unit {0}) FrameFault). z.refused) (runs 0 tt l.early false s.0 s.1 s.2 bytes s.3)) ∙ l.accepted in
      record {
        early = l.early;
        late = l.late;
        parts = l.parts;
        room = l.room;
        steps = s.0;
        rest = s.1;
        spells = subst (λ (f : Option FrameFault). Spells l.early false s.0 s.1 f) none s.3;
      }

  pub frames_read : (result : Result (Ending FrameFault) Stop) (m : ℕ) (x y : SourceState) → ReadsAll result m x y → TakesBytes [] x y → ReadsFrames result x y
  frames_read (Ok ending) m x y r t =
      let looks = looks_before (Ok ending) m x y r (taken_bytes x y r.taken r.source t) in
      record { taken = r.taken; source = r.source; reads = r.reads; ends = r.ends; by = spelled_of ending m x y r t; looks = looks }
  frames_read (Err stop) m x y r t =
      let looks = looks_before (Err stop) m x y r (taken_bytes x y r.taken r.source t) in
      record { taken = r.taken; source = r.source; reads = r.reads; ends = r.ends; by = tt; looks = looks }

  pub frames_left : (ending : Ending FrameFault) (stop : Stop) (m : ℕ) (x y : SourceState) → ReadsAll (Ok ending) m x y → TakesBytes [] x y
      → ReadsFrames (Err stop) x y
  frames_left ending stop m x y r t =
      let looks = looks_before (Ok ending) m x y r (taken_bytes x y r.taken r.source t) in
      record { taken = r.taken; source = r.source; reads = r.reads; ends = r.ends; by = tt; looks = looks }

module _ (runs : RunIsOfSteps call_read) where
  ended_by : (input text : List ℕ) (m : ℕ) (steps : List Step) (rest : List ℕ) (fault refusal : Option FrameFault) → AreBytes input
      → Spells input true steps rest fault
      → run_of looked (step_at call_read) 0 tt input true ≡ come_to text tt m refusal → refusal ≡ fault
  ended_by input text m steps rest fault refusal all sp e = ap (λ (r : Run (Unit {0}) FrameFault). r.refused)
      (sym e ∙ runs 0 tt input true steps rest fault all sp)

  pub completes : (ending : Ending FrameFault) (m a b c d : ℕ) (x y : SourceState) → ReadsAll (Ok ending) m x y
      → RisesIf (has_read_fault (Ok (Some ending))) a b → Completes (Ok ending) x.left (Rose a b) (Rose c d)
  completes Done m a b c d x y r read = λ steps rest fault all sp no_read no_write.
      inl (ap (λ (f : Option FrameFault). Ok (ending_by f)) (ended_by x.left _ m steps rest fault None all sp r.report.1))
  completes ReadFault m a b c d x y r read = λ steps rest fault all sp no_read no_write. absurd (no_read read)
  completes (Refused kind) m a b c d x y r read = λ steps rest fault all sp no_read no_write.
      inl (ap (λ (f : Option FrameFault). Ok (ending_by f)) (ended_by x.left _ m steps rest fault (Some kind) all sp r.report.0))

pub completes_not : (T : Type 0) (stop : Stop) (input : List ℕ) (read_failed : Type 0) (c d : ℕ) → RisesIf (has_write_fault {T = T} (Err stop)) c d
    → Completes (Err stop) input read_failed (Rose c d)
completes_not T NoMemory input read_failed c d written = λ steps rest fault all sp no_read no_write. inr refl
completes_not T WriteFault input read_failed c d written = λ steps rest fault all sp no_read no_write. absurd (no_write written)

-- ---- if all objects are modelled

answered_last : (s : RunState) (cs : List Closing) → last_state s (map answered_closing cs) ≡ last_state s cs
answered_last s [] = refl
answered_last s (c ∷ cs) = answered_last c.state cs

module _ (setting : Setting) (spell : BytesSpell) (runs : RunIsOfSteps (answers setting)) (start : RunState) (x y : SourceState) (p : SinkState) where
  module _ (ending : Ending FrameFault) (m : ℕ) (last end : RunState) (between q : SinkState)
      (r : Runs looked (step_at (answers setting)) (Fails setting) (Ok ending) m start last x y p between) (t : TakesBytes [] x y) where
    is_run : IsRunOf (answers setting) (Fails setting) ending m start last r.taken y.left r.text
    is_run = run_ended (answers setting) (Fails setting) spell runs ending m start last x y p between r (taken_bytes x y r.taken r.source t)

    words_written : (words : List ℕ) → q.written ≡ between.written ++ words
        → q.written ≡ p.written ++ (answers_to (answers setting) 0 start is_run.spelled.steps ++ words)
    words_written words w =
        w ∙ ap (λ (z : List ℕ). z ++ words) r.sink ∙ append_assoc p.written r.text words ∙ ap (λ (z : List ℕ). p.written ++ (z ++ words)) is_run.text_is

    pub answers_all : (done : Unit {0}) → Closes setting.players (ending_status ending) (Ok done) last end between q
        → AnswersAll setting ending start end x y p q
    answers_all done c =
        let whole : c.whole ≡ closings setting.players (ending_status ending) last = sym (append-nil c.whole)
        ∙ ap (λ (z : List Closing). c.whole ++ z) (sym c.to.0) ∙ sym c.among in
        let words : closings_text c.whole ++ c.part ≡ closings_text (closings setting.players (ending_status ending) last) =
        ap (λ (z : List ℕ). closings_text c.whole ++ z) c.to.1 ∙ append-nil (closings_text c.whole) ∙ ap closings_text whole in
        record {
          taken = r.taken;
          source = r.source;
          spelled = is_run.spelled;
          last = last;
          last_is = is_run.state_is;
          written = words_written (closings_text c.whole ++ c.part) c.written
              ∙ ap (λ (z : List ℕ). p.written ++ (answers_to (answers setting) 0 start is_run.spelled.steps ++ z)) words;
          closed = c.to.2 ∙ ap (last_state last) whole ∙ answered_last last (reported setting.players (ending_status ending) last);
        }

    pub stops_past : (stop : Stop) (middle : RunState) → Closes setting.players (ending_status ending) (Err stop) last middle between q
        → end ≡ all_closed setting.players (stop_status stop) middle
        → StopsAfter setting stop start end x y p q
    stops_past stop middle c e = record {
      taken = r.taken;
      source = r.source;
      ending = ending;
      spelled = is_run.spelled;
      last = last;
      last_is = is_run.state_is;
      whole = c.whole;
      others = c.others;
      among = c.among;
      part = c.part;
      written = words_written (closings_text c.whole ++ c.part) c.written;
      middle = middle;
      cut = c.to;
      closed = e;
    }

-- ---- if it stops among its frames

module _ (setting : Setting) (served : ServedAreSteps (answers setting)) where
  -- an item that was begun is the frame of the next step
  record IsNext (n : ℕ) (rest item : List ℕ) (s t : RunState) (text : List ℕ) : Type 0 where
    step : Step
    next : IsNextStep rest step
    item_is : item ≡ frame_of step
    state_is : t ≡ (answers setting n s step).0
    text_is : text ≡ (answers setting n s step).1

  one_run : (m : ℕ) (s t : RunState) (item text : List ℕ) → step_at (answers setting) m s item ≡ Ok (t, text)
      → run_items (step_at (answers setting)) m s (item ∷ []) ≡ come_to (text ++ []) t (m + 1) None
  unfolding run_items
  one_run m s t item text e = ap (λ (r : Result (RunState × List ℕ) FrameFault). after m s r (λ (d : RunState). come_to [] d (m + 1) None)) e

  only : (m : ℕ) (s t : RunState) (rest item text : List ℕ) (ended : Bool) (others : List (List ℕ)) (steps : List Step) (left : List ℕ)
      → AreFramesOf rest steps left → item ∷ [] ≡ map frame_of steps → text ≡ answers_to (answers setting) m s steps
      → t ≡ state_past (answers setting) m s steps → IsNext m rest item s t text
  only m s t rest item text ended others [] left f i e d = absurd cc
  only m s t rest item text ended others (step ∷ []) left f i e d = record {
    step = step;
    next = record { followed = left; frames = f };
    item_is = cc;
    state_is = d;
    text_is = e ∙ append-nil (answers setting m s step).1;
  }
  only m s t rest item text ended others (step ∷ other ∷ steps) left f i e d = absurd cc

  next_of : (m : ℕ) (s t : RunState) (rest item text : List ℕ) (ended : Bool) (others : List (List ℕ)) → m ≤ 65536 → AreBytes rest
      → looked m rest ended ≡ item ∷ others → step_at (answers setting) m s item ≡ Ok (t, text) → IsNext m rest item s t text
  next_of m s t rest item text ended others few all seen e =
      let f = served m (m + 1) s t rest ended (item ∷ []) others (text ++ []) few all seen (one_run m s t item text e) in
      only m s t rest item text ended others f.steps f.rest f.frames f.served_are (sym (append-nil text) ∙ f.text_is) f.state_is

  cut_in : (stop : Stop) (m : ℕ) (begun : Option (List ℕ)) (s d : RunState) (rest part : List ℕ) (ended : Bool) (others : List (List ℕ)) → m ≤ 65536
      → AreBytes rest → looked m rest ended ≡ begun_items begun ++ others
      → StopsAt (step_at (answers setting)) (Fails setting) stop m begun s d part → IsCutIn setting stop m rest s d part
  cut_in WriteFault m None s d rest part ended others few all seen st = absurd st
  cut_in WriteFault m (Some item) s d rest part ended others few all seen st =
      let n = next_of m s d rest item st.text ended others few all seen st.applied in
      (n.step, n.next, n.state_is, st.more, sym n.text_is ∙ st.parts)
  cut_in NoMemory m None s d rest part ended others few all seen st = (st.1, inl st.0)
  cut_in NoMemory m (Some item) s d rest part ended others few all seen st =
      let n = next_of m s st.0.after rest item st.0.text ended others few all seen st.0.accepted in
      (st.1, inr (n.step, n.next, begun_by n.step item n.item_is st.0.after n.state_is st.0.state))
    where
      begun_by : (step : Step) (item : List ℕ) → item ≡ frame_of step → (after : RunState) → after ≡ (answers setting m s step).0
          → (d ≡ after) ⊎ Fails setting m s item d → (d ≡ (answers setting m s step).0) ⊎ Fails setting m s (frame_of step) d
      begun_by step item i after e (inl h) = inl (h ∙ e)
      begun_by step item i after e (inr f) = inr (subst (λ (z : List ℕ). Fails setting m s z d) i f)

  bytes_after : (taken rest : List ℕ) (steps : List Step) → AreFramesOf taken steps rest → AreBytes taken → AreBytes rest
  bytes_after taken rest steps f all =
      All-same (λ b. b < 256) rest (drop (length (frames_of steps)) taken)
      (sym (ap (drop (length (frames_of steps))) f.parts ∙ drop-append_seam (frames_of steps) rest))
      (All-drop (λ b. b < 256) (length (frames_of steps)) taken all)

  pub stops_among : (start last end : RunState) (x y : SourceState) (p q : SinkState) (stop : Stop) (m : ℕ)
      → Runs looked (step_at (answers setting)) (Fails setting) (Err stop) m start last x y p q → TakesBytes [] x y
      → end ≡ all_closed setting.players (stop_status stop) last → StopsAmong setting stop start end x y p q
  stops_among start last end x y p q stop m r t e =
      let s = r.report in
      let all = taken_bytes x y r.taken r.source t in
      let f = served 0 m start s.middle r.taken s.ended s.served (begun_items s.begun ++ s.others_met) s.whole (omega arith) all
      (s.among_met ∙ append_assoc s.served (begun_items s.begun) s.others_met) s.run in
      record {
        taken = r.taken;
        source = r.source;
        steps = f.steps;
        rest = f.rest;
        frames = f.frames;
        few = omega (arith, f.few, f.number);
        part = s.part;
        written = r.sink ∙ ap (λ (z : List ℕ). p.written ++ z) (s.parts ∙ ap (λ (z : List ℕ). z ++ s.part) f.text_is);
        last = last;
        cut = subst (λ (k : ℕ). IsCutIn setting stop k f.rest (state_past (answers setting) 0 start f.steps) last s.part) (omega (arith, f.number))
            (subst (λ (z : RunState). IsCutIn setting stop m f.rest z last s.part) f.state_is (cut_in stop m s.begun s.middle last f.rest s.part s.ended s.others_met f.few (bytes_after r.taken f.rest f.steps f.frames all)
            f.others s.stopped));
        closed = e;
      }
