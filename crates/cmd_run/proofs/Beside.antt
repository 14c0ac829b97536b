-- The steps of a run's lines, and their results.
use Rattle.std.proofs.Common.{◌≡◌, ℕ, ◌+◌, Bool, true, false, cond, leb, ltb, List, [], ◌∷◌, ◌++◌, length, Result, Ok, Err, refl, sym, ap}
use Rattle.std.proofs.Common.{◌∙◌, append_assoc, append-nil}
use Rattle.pam_base.specs.declared.fault.ScriptKind.{ScriptKind}
use Rattle.pam_base.specs.declared.fault.ScriptKind.TheVariants.{LineTooLong, TooManyLines}
use Rattle.report_step.specs.dispatch_core.specs.Lines.{names_of}
use Rattle.report_step.specs.pam_library.specs.SideBySide.{Met, slots_after}
use Rattle.report_step.specs.pam_library.specs.Slots.{PlainSlot}
use Rattle.report_step.specs.pam_library.specs.Step.{stepped}
use Rattle.script_lang.specs.declared.line.Line.{Line}
use Rattle.script_lang.specs.declared.line.Line.TheVariants as lines
use Rattle.script_lang.specs.Line.{parsed}
use Rattle.record_reader.specs.Run.{after, run_items, run_of as run_of_items}
use Rattle.record_reader.specs.LineRun.{Run, run_lines, run_of, step_at}
use Rattle.record_reader.specs.Looked.{looked}
use Rattle.report_step.specs.Step.{step_text}
use Rattle.cmd_run.specs.State.{RunState, Setting, kept_at}
use Rattle.cmd_run.specs.Step.{applied_or_refused, line_step}
use Rattle.cmd_run.specs.SideBySide.{TellsSteps, report_of_steps, step_of, steps_after, steps_in, steps_of}

module _ (setting : Setting) where
  -- a line that was applied, by the step as which it is read
  by_tests : (many long : Bool) (r : Result (RunState × List ℕ) ScriptKind) (x : RunState × List ℕ)
      → cond many (Err TooManyLines) (cond long (Err LineTooLong) r) ≡ Ok x → r ≡ Ok x
  by_tests true long r x e = absurd cc
  by_tests false true r x e = absurd cc
  by_tests false false r x e = e

  pub as_read : (n : ℕ) (s : RunState) (line : List ℕ) (x : RunState × List ℕ) → step_at (line_step setting) n s line ≡ Ok x
      → applied_or_refused setting (kept_at setting n s) (parsed line) ≡ Ok x
  unfolding step_at line_step
  as_read n s line x e = by_tests (leb 65536 n) (ltb 513 (length line)) (line_step setting n s line) x e

  -- ---- one line

  one : {x y : RunState × List ℕ} → ◌≡◌ {A = Result (RunState × List ℕ) ScriptKind} (Ok x) (Ok y) → x ≡ y
  one e = cc

  abbrev SlotsAre : RunState → List Met → RunState → Type 0
  SlotsAre s met t = slots_after setting.players setting.delay s.slots met ≡ t.slots

  one_slots : (s : RunState) (p : Result Line ScriptKind) (x : RunState × List ℕ) → applied_or_refused setting s p ≡ Ok x → SlotsAre s (step_of s p) x.0
  one_slots s (Ok lines.Blank) x e = ap (λ (y : RunState × List ℕ). y.0.slots) (one e)
  one_slots s (Ok (lines.Step step)) x e = ap (λ (y : RunState × List ℕ). y.0.slots) (one e)
  one_slots s (Ok (lines.At moment)) x e = ap (λ (y : RunState × List ℕ). y.0.slots) (one e)
  one_slots s (Ok (lines.Random word)) x e = ap (λ (y : RunState × List ℕ). y.0.slots) (one e)
  one_slots s (Ok (lines.Caller caller)) x e = ap (λ (y : RunState × List ℕ). y.0.slots) (one e)
  one_slots s (Err kind) x e = absurd cc

  one_text : (s : RunState) (p : Result Line ScriptKind) (x : RunState × List ℕ) → applied_or_refused setting s p ≡ Ok x
      → report_of_steps setting s.slots (step_of s p) ≡ x.1
  one_text s (Ok lines.Blank) x e = ap (λ (y : RunState × List ℕ). y.1) (one e)
  one_text s (Ok (lines.Step step)) x e = append-nil _ ∙ ap (λ (y : RunState × List ℕ). y.1) (one e)
  one_text s (Ok (lines.At moment)) x e = ap (λ (y : RunState × List ℕ). y.1) (one e)
  one_text s (Ok (lines.Random word)) x e = ap (λ (y : RunState × List ℕ). y.1) (one e)
  one_text s (Ok (lines.Caller caller)) x e = ap (λ (y : RunState × List ℕ). y.1) (one e)
  one_text s (Err kind) x e = absurd cc

  -- ---- some steps, and others after them

  slots-append : (xs ys : List Met) (slots : List PlainSlot)
      → slots_after setting.players setting.delay slots (xs ++ ys) ≡ slots_after setting.players setting.delay
      (slots_after setting.players setting.delay slots xs) ys
  slots-append [] ys slots = refl
  slots-append (x ∷ xs) ys slots = slots-append xs ys (stepped setting.players setting.delay slots x.world x.step).slots

  abbrev told : List PlainSlot → Met → List ℕ
  told slots m = let t = stepped setting.players setting.delay slots m.world m.step in
      step_text (names_of setting.players) m.step t.outcome t.world.process.ledger

  report-append : (xs ys : List Met) (slots : List PlainSlot)
      → report_of_steps setting slots (xs ++ ys) ≡ report_of_steps setting slots xs
      ++ report_of_steps setting (slots_after setting.players setting.delay slots xs) ys
  report-append [] ys slots = refl
  report-append (x ∷ xs) ys slots =
      let next : List PlainSlot = (stepped setting.players setting.delay slots x.world x.step).slots in
      ap (λ (t : List ℕ). told slots x ++ t) (report-append xs ys next)
      ∙ sym (append_assoc (told slots x) (report_of_steps setting next xs) (report_of_steps setting (slots_after setting.players setting.delay next xs) ys))

  -- ---- many lines

  abbrev rest_of : ℕ → List (List ℕ) → RunState → Run RunState
  rest_of n ls t = run_lines (line_step setting) (n + 1) t ls

  slots_by : (n : ℕ) (s : RunState) (l : List ℕ) (ls : List (List ℕ)) → ((t : RunState) → SlotsAre t (steps_in setting (n + 1) t ls) (rest_of n ls t).last)
      → (r : Result (RunState × List ℕ) ScriptKind) → step_at (line_step setting) n s l ≡ r
      → SlotsAre s (steps_after setting (kept_at setting n s) l r (λ t. steps_in setting (n + 1) t ls)) (after n s r (rest_of n ls)).last
  slots_by n s l ls next (Ok x) e =
      slots-append (step_of (kept_at setting n s) (parsed l)) (steps_in setting (n + 1) x.0 ls) s.slots
      ∙ ap (λ (slots : List PlainSlot). slots_after setting.players setting.delay slots (steps_in setting (n + 1) x.0 ls))
      (one_slots (kept_at setting n s) (parsed l) x (as_read n s l x e))
      ∙ next x.0
  slots_by n s l ls next (Err kind) e = refl

  pub slots_in : (n : ℕ) (s : RunState) (ls : List (List ℕ)) → SlotsAre s (steps_in setting n s ls) (run_lines (line_step setting) n s ls).last
  unfolding steps_in run_items
  slots_in n s [] = refl
  slots_in n s (l ∷ ls) = slots_by n s l ls (λ t. slots_in (n + 1) t ls) (step_at (line_step setting) n s l) refl

  text_by : (n : ℕ) (s : RunState) (l : List ℕ) (ls : List (List ℕ))
      → ((t : RunState) → (rest_of n ls t).text ≡ report_of_steps setting t.slots (steps_in setting (n + 1) t ls))
      → (r : Result (RunState × List ℕ) ScriptKind) → step_at (line_step setting) n s l ≡ r
      → (after n s r (rest_of n ls)).text ≡ report_of_steps setting s.slots (steps_after setting (kept_at setting n s) l r (λ t. steps_in setting (n + 1) t ls))
  text_by n s l ls next (Ok x) e =
      let read = as_read n s l x e in
      let followed = steps_in setting (n + 1) x.0 ls in
      ap (λ (t : List ℕ). x.1 ++ t) (next x.0)
      ∙ ap (λ (t : List ℕ). t ++ report_of_steps setting x.0.slots followed) (sym (one_text (kept_at setting n s) (parsed l) x read))
      ∙ ap (λ (slots : List PlainSlot). report_of_steps setting s.slots (step_of (kept_at setting n s) (parsed l)) ++ report_of_steps setting slots followed)
      (sym (one_slots (kept_at setting n s) (parsed l) x read))
      ∙ sym (report-append (step_of (kept_at setting n s) (parsed l)) followed s.slots)
  text_by n s l ls next (Err kind) e = refl

  pub text_in : (n : ℕ) (s : RunState) (ls : List (List ℕ))
      → (run_lines (line_step setting) n s ls).text ≡ report_of_steps setting s.slots (steps_in setting n s ls)
  unfolding steps_in run_items
  text_in n s [] = refl
  text_in n s (l ∷ ls) = text_by n s l ls (λ t. text_in (n + 1) t ls) (step_at (line_step setting) n s l) refl

  -- ---- the lines among some bytes

  pub tells_steps : (s : RunState) (bytes : List ℕ) (ended : Bool) → TellsSteps setting s bytes ended
  unfolding run_of_items
  tells_steps s bytes ended = text_in 0 s (looked 0 bytes ended)

  pub slots_of : (s : RunState) (bytes : List ℕ) (ended : Bool)
      → slots_after setting.players setting.delay s.slots (steps_of setting s bytes ended) ≡ (run_of (line_step setting) 0 s bytes ended).last.slots
  unfolding run_of_items
  slots_of s bytes ended = slots_in 0 s (looked 0 bytes ended)
