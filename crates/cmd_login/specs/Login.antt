-- One login over the first of sixteen transactions (this project's own; the calls are those of pam(3)): which calls it
-- makes, one after another, where the result of each one leads, and what it writes.
use Rattle.std.specs.Prelude.{◌≡◌, ◌⊎◌, ℕ, Bool, true, false, List, [], ◌∷◌, ◌++◌, Option, Some, None, Result, Ok, Err, codes}
use Rattle.pam_base.specs.declared.code.Code.{Code}
use Rattle.pam_base.specs.declared.code.Code.TheVariants.{Success}
use Rattle.pam_base.specs.declared.call.AppCall.{AppCall}
use Rattle.pam_base.specs.declared.call.AppCall.TheVariants.{Start, End}
use Rattle.pam_base.specs.Code.{number_of}
use Rattle.cmd_run.specs.pam_library.specs.declared.outcome.Answer.{Answer}
use Rattle.cmd_run.specs.pam_library.specs.declared.outcome.Answer.TheVariants as answers
use Rattle.cmd_run.specs.pam_library.specs.AnyWorld.{is_refused}
use Rattle.cmd_run.specs.script_lang.specs.Command.{word_of_call}
use Rattle.cmd_run.specs.report_lines.specs.Line.{code_words}
use Rattle.cmd_run.specs.report_step.specs.Answered.{answer_text}
use Rattle.cmd_run.specs.report_step.specs.Fault.{refused_text}
use Rattle.cmd_run.specs.Reported.{CutBy}
use Rattle.cmd_run.specs.State.{RunState}
use Rattle.record_reader.specs.declared.ending.Stop.{Stop}
use Rattle.record_reader.specs.declared.ending.Stop.TheVariants.{NoMemory}
use Rattle.cmd_login.specs.declared.calls.LoginCall.{LoginCall}
use Rattle.cmd_login.specs.declared.attempt.Verdict.{Verdict}
use Rattle.cmd_login.specs.declared.attempt.Verdict.TheVariants.{Passed, Denied, Refused}
use Rattle.cmd_login.specs.Calls.{accepts, call_of, code_in, is_due, last_place, login_calls}

-- ---- parts of a login

-- What is known of calls by their places in a login: from which state to which one that was made leads with a result,
-- and what one leaves that ran out of memory.
pub record KnownCalls : Type 1 where
  pub made : ℕ → AppCall → RunState → Answer → RunState → Type 0
  pub fails : ℕ → AppCall → RunState → RunState → Type 0

-- what leads from a state, with a result, to a state, and what it writes
abbrev pub Part : Type 0 → Type 1
Part T = KnownCalls → RunState → Result T Stop → RunState → List ℕ → Type 0

-- this is returned, and nothing is done
abbrev pub Returns : {T : Type 0} → T → Part T
Returns t known s result after text = (result ≡ Ok t) × (after ≡ s) × (text ≡ [])

module _ {T U : Type 0} (First : Part T) (Next : T → Part U) where
  -- a part, and after it the one that its result asks for
  pub record GoesOn (known : KnownCalls) (s : RunState) (result : Result U Stop) (after : RunState)
      (text : List ℕ) : Type 0 where
    pub done : T
    pub middle : RunState
    pub front : List ℕ
    pub back : List ℕ
    pub text_is : text ≡ front ++ back
    pub begins : First known s (Ok done) middle front
    pub follows : Next done known middle result after back

  -- a part that stopped, so that no other one follows
  pub record StopsThere (known : KnownCalls) (s : RunState) (result : Result U Stop)
      (after : RunState) (text : List ℕ) : Type 0 where
    pub stop : Stop
    pub result_is : result ≡ Err stop
    pub begins : First known s (Err stop) after text

  abbrev pub Then : Part U
  Then known s result after text =
      GoesOn known s result after text ⊎ StopsThere known s result after text

-- ---- one call

-- the result line; for a start that the configuration refused, the line of the fault
abbrev pub answer_line : AppCall → Answer → List ℕ
answer_line call (answers.Refused fault) = refused_text fault
answer_line call answer = answer_text 1 (word_of_call call) answer

-- the line is written whole, or if a write failed a prefix of it, or if an allocation for it failed nothing
abbrev pub WritesLine : Result Answer Stop → Answer → List ℕ → List ℕ → Type 0
WritesLine (Ok returned) answer line text = (returned ≡ answer) × (text ≡ line)
WritesLine (Err stop) answer line text = CutBy stop text line

-- it was made
module _ (place : ℕ) (call : AppCall) where
  pub record IsMade (known : KnownCalls) (s : RunState) (result : Result Answer Stop)
      (after : RunState) (text : List ℕ) : Type 0 where
    pub answer : Answer
    pub made : known.made place call s answer after
    pub line : WritesLine result answer (answer_line call answer) text

  -- it was made, or ran out of memory itself
  abbrev pub MakesCall : Part Answer
  MakesCall known s result after text = IsMade known s result after text
      ⊎ ((result ≡ Err NoMemory) × (text ≡ []) × known.fails place call s after)

-- ---- the calls between start and end

-- after a code with which the login goes on the other calls follow; any other code denies it
abbrev pub Judged : Bool → Code → (Code → Part (Option Code)) → Part (Option Code)
Judged true code Others = Others code
Judged false code Others = Returns (Some code)

-- a call is made if the code before it asks for it
abbrev pub Turn : Bool → LoginCall → Code → (Code → Part (Option Code)) → Part (Option Code)
Turn false c last Others = Others last
Turn true c last Others = Then (MakesCall c.place (call_of c))
    (λ answer. Judged (accepts c.accepted (code_in answer)) (code_in answer) Others)

-- The calls of a table, each by the code of the one before it. The result is the code that denied the login, if one did.
abbrev pub GoesThrough : List LoginCall → Code → Part (Option Code)
GoesThrough [] last = Returns None
GoesThrough (c ∷ calls) last = Turn (is_due c.when last) c last (GoesThrough calls)

-- ---- the end

-- denied NAME NUMBER
abbrev pub denied_line : Code → List ℕ
denied_line code = codes "denied " ++ (code_words code ++ codes "\n")

-- the last line of a login that is denied, or a prefix of it
abbrev pub Denies : Code → Part Verdict
Denies code known s (Ok verdict) after text = (verdict ≡ Denied code) × (after ≡ s)
    × (text ≡ denied_line code)
Denies code known s (Err stop) after text = (after ≡ s) × CutBy stop text (denied_line code)

abbrev pub LastLine : Option Code → Part Verdict
LastLine None = Returns Passed
LastLine (Some code) = Denies code

-- the transaction is ended with SUCCESS, or with the code that denied
abbrev pub end_code : Option Code → Code
end_code None = Success
end_code (Some code) = code

abbrev pub end_call : Code → AppCall
end_call code = End (number_of code)

abbrev pub verdict_by : Option Code → Verdict
verdict_by None = Passed
verdict_by (Some code) = Denied code

abbrev pub FinalVerdict : Option Code → Part Verdict
FinalVerdict denied = Then (MakesCall last_place (end_call (end_code denied)))
    (λ answer. LastLine denied)

-- ---- the whole login

abbrev pub AfterStart : Part Verdict
AfterStart = Then (GoesThrough login_calls Success) FinalVerdict

-- after a start that was refused nothing more is done
abbrev pub UnlessRefused : Bool → Part Verdict
UnlessRefused true = Returns Refused
UnlessRefused false = AfterStart

abbrev pub FromStart : List ℕ → Option (List ℕ) → Part Verdict
FromStart service user = Then (MakesCall 0 (Start service user))
    (λ answer. UnlessRefused (is_refused answer))

-- if an allocation for the names failed, it isn't begun
abbrev pub TriesLogin : List ℕ → Option (List ℕ) → Part Verdict
TriesLogin service user known s result after text = FromStart service user known s result after text
    ⊎ ((result ≡ Err NoMemory) × (after ≡ s) × (text ≡ []))
