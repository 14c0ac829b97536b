-- What a login and its parts do, with real objects too (this project's own): each line is that of a call that the library
-- made on the slot as the calls before it left it.
use Rattle.std.specs.Prelude.{◌≡◌, ℕ, ◌+◌, ◌≤◌, false, List, ◌++◌, length, Option, Result, Ok, OnOk, IsTrue}
use Rattle.pam_base.specs.declared.code.Code.{Code}
use Rattle.pam_base.specs.declared.call.AppCall.{AppCall}
use Rattle.pam_outside.specs.Counts.{RisesIf}
use Rattle.pam_outside.specs.Streams.{SinkState}
use Rattle.cmd_run.specs.pam_room.specs.Module.{Player}
use Rattle.cmd_run.specs.pam_library.specs.AnyWorld.{AnswersBy, FailsAt, refusal}
use Rattle.cmd_run.specs.pam_library.specs.Outcome.{PlainOutcome}
use Rattle.cmd_run.specs.pam_library.specs.Slots.{PlainSlot, slot_at}
use Rattle.cmd_run.specs.pam_library.specs.Traced.{TracesAt}
use Rattle.cmd_run.specs.pam_library.specs.declared.outcome.Answer.{Answer}
use Rattle.cmd_run.specs.Seen.{AllTell, NoneIsOpenIn, SessionSeen, Went, setting_at, setting_in, state}
use Rattle.cmd_run.specs.State.{RunState, setting_of}
use Rattle.cmd_run.specs.Time.{Timing}
use Rattle.record_reader.specs.Object.{Object}
use Rattle.record_reader.specs.Turns.{has_write_fault}
use Rattle.record_reader.specs.declared.ending.Stop.{Stop}
use Rattle.cmd_login.specs.declared.attempt.Verdict.{Verdict}
use Rattle.cmd_login.specs.declared.attempt.Verdict.TheVariants.{Denied}
use Rattle.cmd_login.specs.Ends.{IsDenial, IsEndOfLogin, IsEndWith, closing_code}
use Rattle.cmd_login.specs.Login.{KnownCalls, Part, end_call}
use Rattle.cmd_login.specs.Told.{exact_calls, state_made}

-- ---- calls, with real objects too

-- The result of a call, by the slot before it and the slot after it: one that the call can have there. The code of a
-- stack call, and what is held after it, are those to which some lines lead, which its outcome lists.
pub record IsResult (call : AppCall) (before after : Option PlainSlot) (answer : Answer) : Type
    0 where
  pub outcome : PlainOutcome
  pub answer_is : outcome.answer ≡ answer
  pub answers : AnswersBy (refusal before call) call answer
  pub traces : TracesAt call before after outcome

abbrev pub possible_calls : KnownCalls
possible_calls = record {
  made = λ place call s answer after. IsResult call (slot_at s.slots 1) (slot_at after.slots 1)
      answer;
  fails = λ place call s after. FailsAt false call (slot_at s.slots 1) (slot_at after.slots 1);
}

-- ---- what a part does

-- What it wrote to a modelled sink, with at most one call more than there are bytes; without that one if nothing failed.
pub record Writes {T : Type 0} (Does : Part T) (known : KnownCalls) (result : Result T Stop)
    (s after : RunState) (p q : SinkState) : Type 0 where
  pub text : List ℕ
  pub written : q.written ≡ p.written ++ text
  pub calls : q.calls ≤ p.calls + length text + 1
  pub calls_ok : OnOk result (q.calls ≤ p.calls + length text)
  pub does : Does known s result after text

-- Exactly what it does if library, world, time and sink are modelled; what it writes if only the sink is; and with real
-- objects too, which ends it made, and what stays as it was.
pub record Goes {T : Type 0} (Does : Part T) (Is : ℕ → ℕ → Type 0) (time : Timing)
    (result : Result T Stop) (old new : SessionSeen) (output : Object SinkState) : Type 0 where
  pub told : IsTrue time.tells → (delay : Code → ℕ → ℕ) → old.gives delay → AllTell old
      → IsTrue output.tells
      → Writes Does (exact_calls (setting_at time.moments old delay)) result (state old) (state new)
      output.old output.new
  pub reports : IsTrue output.tells
      → Writes Does possible_calls result (state old) (state new) output.old output.new
  pub others : (number : ℕ) → (number ≡ 1 → ⊥)
      → slot_at new.slots number ≡ slot_at old.slots number
  pub went : Went Is old new
  pub faults : RisesIf (has_write_fault result) output.faults_before output.faults_after
  pub sink_tells : output.tells_after ≡ output.tells

-- ---- the whole login

-- the transaction was ended for a result, if it was still open, and nothing was written for that
abbrev pub IsEndedFor : Result Verdict Stop → List Player → RunState → RunState → Type 0
IsEndedFor result players last after = (delay : Code → ℕ → ℕ)
    → after ≡ state_made (setting_of players delay) (end_call (closing_code result)) last

-- what a login did and wrote, and then that end
pub record LogsIn (Does : Part Verdict) (known : KnownCalls) (players : List Player)
    (result : Result Verdict Stop) (s after : RunState) (p q : SinkState) : Type 0 where
  pub last : RunState
  pub writes : Writes Does known result s last p q
  pub ended : IsEndedFor result players last after

-- what contracts see of it
pub record LoggedIn (Does : Part Verdict) (time : Timing) (result : Result Verdict Stop)
    (old new : SessionSeen) (output : Object SinkState) : Type 0 where
  -- If all objects are modelled, and the time of day if there is one: each call is exactly the library's, at the time of
  -- day of its place. The calls, what is written of them, and the verdict are those of `Does`; after an Err the first of
  -- them, and of the last line perhaps a prefix.
  pub told : IsTrue time.tells → (delay : Code → ℕ → ℕ) → old.gives delay → AllTell old
      → IsTrue output.tells
      → LogsIn Does (exact_calls (setting_at time.moments old delay)) old.players result (state old)
      (state new) output.old output.new
  -- If only the sink is modelled: the same, where each call is one that the library can make on the slot as the calls
  -- before it left it, with a result that it can have there.
  pub reports : IsTrue output.tells → LogsIn Does possible_calls old.players result (state old)
      (state new) output.old output.new
  -- With real objects too: SUCCESS denies nobody; no transaction is open; and the cleanup log and the module data are
  -- what calls of the library, with these statuses of pam_end, made of them.
  pub denies : (code : Code) → result ≡ Ok (Denied code) → IsDenial code
  pub none_open : NoneIsOpenIn new
  pub went : Went (IsEndOfLogin result) old new
  -- The causes, with real objects too.
  pub faults : RisesIf (has_write_fault result) output.faults_before output.faults_after
  -- What is modelled before the login is modelled after it.
  pub sink_tells : output.tells_after ≡ output.tells

-- the transaction is ended with this code, if it is open, and nothing is written
pub record EndsSilently (code : Code) (old new : SessionSeen) : Type 0 where
  pub ended : (delay : Code → ℕ → ℕ)
      → state new ≡ state_made (setting_in old delay) (end_call code) (state old)
  pub others : (number : ℕ) → (number ≡ 1 → ⊥)
      → slot_at new.slots number ≡ slot_at old.slots number
  pub went : Went (IsEndWith code) old new
