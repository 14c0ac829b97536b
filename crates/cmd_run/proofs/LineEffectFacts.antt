-- What a line of a script does, from what it asks for.
use Rattle.std.proofs.Common.{◌≡◌, ℕ, Bool, true, false, cond, leb, ltb, List, length, Result, Ok, Err, refl, sym, ap, ◌∙◌}
use Rattle.std.proofs.lemmas.Bool.{ltb-true}
use Rattle.pam_base.specs.declared.fault.ScriptKind.{ScriptKind}
use Rattle.pam_base.specs.declared.fault.ScriptKind.TheVariants.{LineTooLong, TooManyLines}
use Rattle.script_lang.specs.declared.line.Line.{Line}
use Rattle.script_lang.specs.declared.line.Line.TheVariants as lines
use Rattle.script_lang.specs.Line.{parsed}
use Rattle.record_reader.specs.LineRun.{step_at}
use Rattle.cmd_run.specs.Reading.{line_read, read_as}
use Rattle.cmd_run.specs.Script.{as_it_is, line_asked, script_step}
use Rattle.cmd_run.specs.Serve.{Does, served_line}
use Rattle.cmd_run.specs.State.{RunState, Setting, kept_at}
use Rattle.cmd_run.specs.Step.{Fails, applied_or_refused, line_step}
use Rattle.cmd_run.proofs.ItemRequestFacts.{as_parsed}
use Rattle.cmd_run.proofs.ItemEffectFacts.{long_line}

module _ (setting : Setting) where
  as_served : (s : RunState) (r : Result Line ScriptKind) → applied_or_refused setting s r ≡ served_line as_it_is setting s r
  as_served s (Ok lines.Blank) = refl
  as_served s (Ok (lines.Step step)) = refl
  as_served s (Ok (lines.At moment)) = refl
  as_served s (Ok (lines.Random word)) = refl
  as_served s (Ok (lines.Caller caller)) = refl
  as_served s (Err kind) = refl

  short : (b : Bool) (n : ℕ) (s : RunState) (line : List ℕ) → ltb 513 (length line) ≡ b
      → cond b (Err LineTooLong) (line_step setting n s line) ≡ line_step setting n s line
  unfolding line_step
  short true n s line e = sym (ap (applied_or_refused setting (kept_at setting n s)) (long_line line (ltb-true 513 (length line) e)))
  short false n s line e = refl

  few : (many : Bool) (n : ℕ) (s : RunState) (line : List ℕ) → cond many (Err TooManyLines) (line_step setting n s line)
      ≡ served_line as_it_is setting (kept_at setting n s) (cond many (Err TooManyLines) (parsed line))
  unfolding line_step
  few true n s line = refl
  few false n s line = as_served (kept_at setting n s) (parsed line)

  steps : (n : ℕ) (s : RunState) (line : List ℕ) → script_step setting n s line ≡ served_line as_it_is setting (kept_at setting n s) (line_asked n line)
  unfolding step_at
  steps n s line =
      ap (λ (r : Result (RunState × List ℕ) ScriptKind). cond (leb 65536 n) (Err TooManyLines) r) (short (ltb 513 (length line)) n s line refl)
      ∙ few (leb 65536 n) n s line

short_read : (b : Bool) (n : ℕ) (line : List ℕ) → ltb 513 (length line) ≡ b → cond b (Err LineTooLong) (line_read n tt line) ≡ line_read n tt line
unfolding line_read
short_read true n line e = sym (ap (λ (r : Result Line ScriptKind). read_as r) (long_line line (ltb-true 513 (length line) e)))
short_read false n line e = refl

few_read : (many : Bool) (n : ℕ) (line : List ℕ) → cond many (Err TooManyLines) (line_read n tt line) ≡ read_as (cond many (Err TooManyLines) (parsed line))
unfolding line_read
few_read true n line = refl
few_read false n line = refl

reads : (n : ℕ) (line : List ℕ) → step_at line_read n tt line ≡ read_as (line_asked n line)
unfolding step_at
reads n line =
    ap (λ (r : Result (Unit {0} × List ℕ) ScriptKind). cond (leb 65536 n) (Err TooManyLines) r) (short_read (ltb 513 (length line)) n line refl)
    ∙ few_read (leb 65536 n) n line

pub lines_do : Does line_asked as_it_is script_step Fails (step_at line_read)
lines_do = record {
  steps = steps;
  fails_so = λ setting n s t line call e f. record { step = call; asked = as_parsed n line _ e; fails = f };
  reads = reads;
}

-- a line that was applied asks for what it is parsed as
accepted_by : (setting : Setting) (many : Bool) (r : Result (RunState × List ℕ) ScriptKind) (p : Result Line ScriptKind) (x : RunState × List ℕ)
    → cond many (Err TooManyLines) r ≡ Ok x → cond many (Err TooManyLines) p ≡ p
accepted_by setting true r p x e = absurd cc
accepted_by setting false r p x e = refl

pub asked_for : (setting : Setting) (n : ℕ) (s : RunState) (line : List ℕ) (x : RunState × List ℕ) → script_step setting n s line ≡ Ok x
    → line_asked n line ≡ parsed line
unfolding step_at
asked_for setting n s line x e = accepted_by setting (leb 65536 n) _ (parsed line) x e
