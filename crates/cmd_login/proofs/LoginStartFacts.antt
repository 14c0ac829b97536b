-- The start of a login.
use Rattle.std.proofs.Common.{◌≡◌, ℕ, Bool, List, [], Option, Result, Err, inl, inr, refl, sym, ap, append-nil, arith}
use Rattle.pam_base.specs.declared.call.AppCall.{AppCall}
use Rattle.pam_base.specs.declared.call.AppCall.TheVariants.{Start}
use Rattle.pam_outside.specs.Streams.{SinkState}
use Rattle.cmd_run.specs.Seen.{IsSoundIn, SessionSeen, setting_at, state}
use Rattle.cmd_run.specs.State.{RunState}
use Rattle.cmd_run.specs.Time.{Timing}
use Rattle.cmd_run.specs.pam_library.specs.AnyWorld.{is_refused}
use Rattle.cmd_run.specs.pam_library.specs.declared.outcome.Answer.{Answer}
use Rattle.cmd_run.proofs.RunPartFacts.{went_nowhere}
use Rattle.record_reader.specs.Object.{object_of}
use Rattle.record_reader.specs.declared.ending.Stop.{Stop}
use Rattle.record_reader.specs.declared.ending.Stop.TheVariants.{NoMemory}
use Rattle.cmd_login.specs.declared.attempt.Verdict.{Verdict}
use Rattle.cmd_login.specs.Login.{FromStart, KnownCalls, MakesCall, Then, TriesLogin, UnlessRefused}
use Rattle.cmd_login.specs.Reported.{Goes, Writes, possible_calls}
use Rattle.cmd_login.specs.Told.{exact_calls}

pub from_start : (service : List ℕ) (user : Option (List ℕ)) (call : AppCall) → call ≡ Start service user
    → Then (MakesCall 0 call) (λ (answer : Answer). UnlessRefused (is_refused answer)) ≡ FromStart service user
from_start service user call is = ap (λ (x : AppCall). Then (MakesCall 0 x) (λ (answer : Answer). UnlessRefused (is_refused answer))) is

module _ (service : List ℕ) (user : Option (List ℕ)) (known : KnownCalls) where
  unbegun : (s : RunState) (p : SinkState) → Writes (TriesLogin service user) known (Err NoMemory) s s p p
  unbegun s p = record { text = []; written = sym (append-nil p.written); calls = omega arith; calls_ok = tt; does = inr (refl, refl, refl) }

  started : (result : Result Verdict Stop) (s t : RunState) (p q : SinkState) → Writes (FromStart service user) known result s t p q
      → Writes (TriesLogin service user) known result s t p q
  started result s t p q w = record { text = w.text; written = w.written; calls = w.calls; calls_ok = w.calls_ok; does = inl w.does }

module _ {K : Type 0} (tells : K → Bool) (holds : K → SinkState) (faults : K → ℕ) (Is : ℕ → ℕ → Type 0) (time : Timing) (service : List ℕ)
    (user : Option (List ℕ)) where
  pub goes_unbegun : (a : SessionSeen) (x : K) → IsSoundIn a
      → Goes (TriesLogin service user) Is time (Err NoMemory) a a (object_of tells holds faults x x)
  goes_unbegun a x sound = record {
    told = λ timed delay is all sink. unbegun service user (exact_calls (setting_at time.moments a delay)) (state a) (holds x);
    reports = λ sink. unbegun service user possible_calls (state a) (holds x);
    others = λ number other. refl;
    went = went_nowhere Is a sound;
    faults = refl;
    sink_tells = refl;
  }

  pub goes_started : (result : Result Verdict Stop) (a b : SessionSeen) (x y : K)
      → Goes (FromStart service user) Is time result a b (object_of tells holds faults x y)
      → Goes (TriesLogin service user) Is time result a b (object_of tells holds faults x y)
  goes_started result a b x y g = record {
    told = λ timed delay is all sink.
        started service user (exact_calls (setting_at time.moments a delay)) result (state a) (state b) (holds x) (holds y) (g.told timed delay is all sink);
    reports = λ sink. started service user possible_calls result (state a) (state b) (holds x) (holds y) (g.reports sink);
    others = g.others;
    went = g.went;
    faults = g.faults;
    sink_tells = g.sink_tells;
  }
