-- One call of a login.
use Rattle.std.proofs.Common.{◌≡◌, ℕ, true, false, ◌&&◌, Bool, IsTrue, List, [], ◌++◌, Ok, Err, Option, Some, None, Result, inl, inr, refl, ap, sym, subst, ◌∙◌, append-nil, arith}
use Rattle.pam_base.specs.declared.code.Code.{Code}
use Rattle.pam_base.specs.declared.call.AppCall.{AppCall}
use Rattle.pam_base.specs.declared.call.AppCall.TheVariants as calls
use Rattle.pam_base.specs.declared.fault.Failed.{Failed}
use Rattle.pam_outside.specs.Streams.{SinkState, WritesWhole}
use Rattle.cmd_run.specs.pam_room.specs.Module.{Player}
use Rattle.cmd_run.specs.pam_room.specs.State.{PlainWorld}
use Rattle.cmd_run.specs.pam_library.specs.AnyWorld.{AnswersBy, Fails, FailsAt, refusal}
use Rattle.cmd_run.specs.pam_library.specs.Outcome.{PlainOutcome, plain_outcome}
use Rattle.cmd_run.specs.pam_library.specs.Slots.{PlainSlot}
use Rattle.cmd_run.specs.pam_library.specs.Step.{StepsAs, stepped}
use Rattle.cmd_run.specs.pam_library.specs.Traced.{TracesAt}
use Rattle.cmd_run.specs.pam_library.specs.declared.outcome.Answer.{Answer}
use Rattle.cmd_run.specs.pam_library.specs.declared.outcome.Outcome.{Outcome}
use Rattle.cmd_run.specs.State.{RunState, Setting, setting_of, state_of}
use Rattle.cmd_run.specs.Step.{CallFails}
use Rattle.cmd_run.specs.Time.{kept}
use Rattle.record_reader.specs.declared.ending.Stop.{Stop}
use Rattle.record_reader.specs.declared.ending.Stop.TheVariants.{NoMemory, WriteFault}
use Rattle.cmd_login.specs.declared.attempt.Verdict.{Verdict}
use Rattle.cmd_login.specs.declared.attempt.Verdict.TheVariants.{Denied}
use Rattle.cmd_login.specs.Login.{Denies, KnownCalls, MakesCall, answer_line, denied_line}
use Rattle.cmd_login.specs.Reported.{IsResult, Writes}
use Rattle.cmd_login.specs.Told.{IsExact, exact_calls, step_of}

-- ---- what the library says of it

pub exactly_made : (players : List Player) (delay : Code → ℕ → ℕ) (call : AppCall) (slots : List PlainSlot) (world : PlainWorld) (o : Outcome)
    (next : List PlainSlot) (after : PlainWorld) → StepsAs (stepped players delay slots world (step_of call)) (plain_outcome o) next after
    → IsExact (setting_of players delay) call (state_of slots world) o.answer (state_of next after)
exactly_made players delay call slots world o next after a =
    (ap (λ (x : PlainOutcome). x.answer) a.outcome_is, rw (a.slots_is, a.world_is) refl)

pub possibly_made : (call : AppCall) (slot next : Option PlainSlot) (o : Outcome) → AnswersBy (refusal slot call) call o.answer
    → TracesAt call slot next (plain_outcome o) → IsResult call slot next o.answer
possibly_made call slot next o answers traces = record { outcome = plain_outcome o; answer_is = refl; answers = answers; traces = traces }

-- out of memory, if it isn't known whether the conversations are modelled
untold : (tells : Bool) (call : AppCall) (old new : PlainSlot) → Fails tells call old new → Fails false call old new
untold tells (calls.Reply text) old new f = record { rest = f.rest; told = λ modelled. absurd (cc) }
untold tells call old new f = f

pub failed_untold : (tells : Bool) (call : AppCall) (slot next : Option PlainSlot) → FailsAt tells call slot next → FailsAt false call slot next
failed_untold tells call (Some old) (Some new) f = untold tells call old new f
failed_untold tells call (Some old) None f = absurd f
failed_untold tells call None next f = absurd f

-- ---- what is written of it

module _ (place : ℕ) (call : AppCall) (known : KnownCalls) (s t : RunState) where
  pub call_failed : (p : SinkState) → known.fails place call s t → Writes (MakesCall place call) known (Err NoMemory) s t p p
  call_failed p fails = record {
    text = [];
    written = sym (append-nil p.written);
    calls = omega arith;
    calls_ok = tt;
    does = inr (refl, refl, fails);
  }

  module _ (answer : Answer) (made : known.made place call s answer t) where
    -- an allocation for its line failed
    pub call_unwritten : (p : SinkState) → Writes (MakesCall place call) known (Err NoMemory) s t p p
    call_unwritten p = record {
      text = [];
      written = sym (append-nil p.written);
      calls = omega arith;
      calls_ok = tt;
      does = inl (record { answer = answer; made = made; line = refl });
    }

    module _ (text : List ℕ) (line : text ≡ answer_line call answer) (p q : SinkState) where
      pub call_written : (u : Unit {0}) → WritesWhole {T = Unit {0}} (Ok u) text p q → Writes (MakesCall place call) known (Ok answer) s t p q
      call_written u w = record {
        text = w.front;
        written = w.written;
        calls = w.calls;
        calls_ok = w.calls_ok;
        does = inl (record { answer = answer; made = made; line = (refl, w.all ∙ line) });
      }

      pub call_cut : (failed : Failed) → WritesWhole {T = Unit {0}} (Err failed) text p q → Writes (MakesCall place call) known (Err WriteFault) s t p q
      call_cut failed w = record {
        text = w.front;
        written = w.written;
        calls = w.calls;
        calls_ok = tt;
        does = inl (record { answer = answer; made = made; line = (w.back, sym line ∙ w.parts) });
      }

-- ---- the same call, by what else is known of it

module _ (place : ℕ) (call : AppCall) (known other : KnownCalls) (s u t : RunState)
    (so : (answer : Answer) → known.made place call s answer t → other.made place call u answer t) (fails_so : known.fails place call s t → other.fails place call u t) where
  makes_as : (result : Result Answer Stop) (text : List ℕ) → MakesCall place call known s result t text → MakesCall place call other u result t text
  makes_as result text (inl m) = inl (record { answer = m.answer; made = so m.answer m.made; line = m.line })
  makes_as result text (inr f) = inr (f.0, f.1, fails_so f.2)

  pub writes_as : (result : Result Answer Stop) (p q : SinkState) → Writes (MakesCall place call) known result s t p q
      → Writes (MakesCall place call) other result u t p q
  writes_as result p q w = record {
    text = w.text;
    written = w.written;
    calls = w.calls;
    calls_ok = w.calls_ok;
    does = makes_as result w.text w.does;
  }

pub and_right : (a b : Bool) → IsTrue (a && b) → IsTrue b
and_right true b both = both
and_right false b both = absurd (cc)

-- the clock was set before it
module _ (setting : Setting) (place : ℕ) (call : AppCall) (slots : List PlainSlot) (w v : PlainWorld) (t : RunState)
    (at_time : v ≡ kept (setting.moments place) w) where
  fails_in : CallFails (setting_of setting.players setting.delay) (step_of call) (state_of slots v) t → CallFails setting (step_of call) (state_of slots v) t
  fails_in f = record { place = f.place; leaves = f.leaves; stops = f.stops; world = f.world; nap = f.nap }

  pub made_at_time : (result : Result Answer Stop) (p q : SinkState)
      → Writes (MakesCall place call) (exact_calls (setting_of setting.players setting.delay)) result (state_of slots v) t p q
      → Writes (MakesCall place call) (exact_calls setting) result (state_of slots w) t p q
  made_at_time result p q = writes_as place call (exact_calls (setting_of setting.players setting.delay)) (exact_calls setting) (state_of slots v) (state_of slots w)
      t (λ (answer : Answer) (made : IsExact (setting_of setting.players setting.delay) call (state_of slots v) answer t).
      subst (λ (x : PlainWorld). IsExact setting call (state_of slots x) answer t) at_time made)
      (λ (f : CallFails (setting_of setting.players setting.delay) (step_of call) (state_of slots v) t).
      subst (λ (x : PlainWorld). CallFails setting (step_of call) (state_of slots x) t) at_time (fails_in f)) result p q

-- ---- the last line of a login that is denied

module _ (code : Code) (known : KnownCalls) (s : RunState) where
  pub denial_unwritten : (p : SinkState) → Writes (Denies code) known (Err NoMemory) s s p p
  denial_unwritten p = record { text = []; written = sym (append-nil p.written); calls = omega arith; calls_ok = tt; does = (refl, refl) }

  module _ (text : List ℕ) (line : text ≡ denied_line code) (p q : SinkState) where
    pub denial_written : (u : Unit {0}) → WritesWhole {T = Unit {0}} (Ok u) text p q → Writes (Denies code) known (Ok (Denied code)) s s p q
    denial_written u w = record { text = w.front; written = w.written; calls = w.calls; calls_ok = w.calls_ok; does = (refl, refl, w.all ∙ line) }

    pub denial_cut : (failed : Failed) → WritesWhole {T = Unit {0}} (Err failed) text p q → Writes (Denies code) known (Err WriteFault) s s p q
    denial_cut failed w = record { text = w.front; written = w.written; calls = w.calls; calls_ok = tt; does = (refl, (w.back, sym line ∙ w.parts)) }

-- whatever is known of calls, since it makes none
pub denial_known : (code : Code) (known other : KnownCalls) (result : Result Verdict Stop) (s : RunState) (p q : SinkState)
    → Writes (Denies code) known result s s p q → Writes (Denies code) other result s s p q
denial_known code known other (Ok verdict) s p q w =
    record { text = w.text; written = w.written; calls = w.calls; calls_ok = w.calls_ok; does = w.does }
denial_known code known other (Err stop) s p q w = record { text = w.text; written = w.written; calls = w.calls; calls_ok = w.calls_ok; does = w.does }
