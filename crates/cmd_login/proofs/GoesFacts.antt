-- What parts of a login do, one after another.
use Rattle.std.proofs.Common.{◌≡◌, ℕ, Bool, IsTrue, List, Result, Ok, Err, refl, subst, ◌∙◌}
use Rattle.pam_base.specs.declared.code.Code.{Code}
use Rattle.pam_outside.specs.Counts.{RisesIf}
use Rattle.pam_outside.specs.Streams.{SinkState}
use Rattle.cmd_run.specs.pam_room.specs.Module.{Player}
use Rattle.cmd_run.specs.Seen.{IsSoundIn, SessionSeen, setting_at, state}
use Rattle.cmd_run.specs.State.{RunState}
use Rattle.cmd_run.specs.Time.{Timing}
use Rattle.cmd_run.proofs.RunPartFacts.{still_told, went_nowhere, went_on, went_so}
use Rattle.record_reader.specs.Object.{object_of}
use Rattle.record_reader.specs.Turns.{has_write_fault}
use Rattle.record_reader.specs.declared.ending.Stop.{Stop}
use Rattle.record_reader.specs.declared.ending.Stop.TheVariants.{NoMemory, WriteFault}
use Rattle.cmd_login.specs.Login.{KnownCalls, Part, Returns, Then}
use Rattle.cmd_login.specs.Reported.{Goes, Writes, possible_calls}
use Rattle.cmd_login.specs.Told.{exact_calls}
use Rattle.cmd_login.proofs.PartFacts.{writes_nothing, writes_stopped, writes_then}

stops_alike : (T U : Type 0) (stop : Stop) (before now : ℕ) → RisesIf (has_write_fault {T = T} (Err stop)) before now
    → RisesIf (has_write_fault {T = U} (Err stop)) before now
stops_alike T U NoMemory before now rises = rises
stops_alike T U WriteFault before now rises = rises

module _ {K : Type 0} (tells : K → Bool) (holds : K → SinkState) (faults : K → ℕ) (Is : ℕ → ℕ → Type 0) (time : Timing) where
  pub goes_nowhere : {T : Type 0} (t : T) (a : SessionSeen) (x : K) → IsSoundIn a → Goes {T = T} (Returns t) Is time (Ok t) a a (object_of tells holds faults x x)
  goes_nowhere t a x sound = record {
    told = λ timed delay is all sink. writes_nothing t (exact_calls (setting_at time.moments a delay)) (state a) (holds x);
    reports = λ sink. writes_nothing t possible_calls (state a) (holds x);
    others = λ number other. refl;
    went = went_nowhere Is a sound;
    faults = refl;
    sink_tells = refl;
  }

  -- a part that no call is made in
  pub goes_beside : {T : Type 0} (Does : Part T) (result : Result T Stop) (a : SessionSeen) (x y : K) → IsSoundIn a
      → ((known : KnownCalls) (s : RunState) → IsTrue (tells x) → Writes {T = T} Does known result s s (holds x) (holds y))
      → RisesIf (has_write_fault result) (faults x) (faults y) → tells y ≡ tells x
      → Goes {T = T} Does Is time result a a (object_of tells holds faults x y)
  goes_beside Does result a x y sound writes counts still = record {
    told = λ timed delay is all sink. writes (exact_calls (setting_at time.moments a delay)) (state a) sink;
    reports = λ sink. writes possible_calls (state a) sink;
    others = λ number other. refl;
    went = went_nowhere Is a sound;
    faults = counts;
    sink_tells = still;
  }

  -- the same with more ends
  pub goes_so : {T : Type 0} (Are : ℕ → ℕ → Type 0) → ((number status : ℕ) → Is number status → Are number status)
      → (Does : Part T) (result : Result T Stop) (a b : SessionSeen) (x y : K) → Goes {T = T} Does Is time result a b (object_of tells holds faults x y)
      → Goes {T = T} Does Are time result a b (object_of tells holds faults x y)
  goes_so Are so Does result a b x y g = record {
    told = g.told;
    reports = g.reports;
    others = g.others;
    went = went_so Is Are so a b g.went;
    faults = g.faults;
    sink_tells = g.sink_tells;
  }

  module _ {T U : Type 0} (First : Part T) (Next : T → Part U) where
    pub goes_stopped : (stop : Stop) (a b : SessionSeen) (x y : K) → Goes {T = T} First Is time (Err stop) a b (object_of tells holds faults x y)
        → Goes {T = U} (Then First Next) Is time (Err stop) a b (object_of tells holds faults x y)
    goes_stopped stop a b x y g = record {
      told = λ timed delay is all sink.
          writes_stopped First Next (exact_calls (setting_at time.moments a delay)) stop (state a) (state b) (holds x) (holds y) (g.told timed delay is all sink);
      reports = λ sink. writes_stopped First Next possible_calls stop (state a) (state b) (holds x) (holds y) (g.reports sink);
      others = g.others;
      went = g.went;
      faults = stops_alike T U stop (faults x) (faults y) g.faults;
      sink_tells = g.sink_tells;
    }

    module _ (done : T) (result : Result U Stop) (a b c : SessionSeen) (x y z : K) (g : Goes {T = T} First Is time (Ok done) a b (object_of tells holds faults x y))
        (h : Goes {T = U} (Next done) Is time result b c (object_of tells holds faults y z)) where
      pub goes_then : Goes {T = U} (Then First Next) Is time result a c (object_of tells holds faults x z)
      goes_then = record {
        told = λ timed delay is all sink.
            writes_then First Next (exact_calls (setting_at time.moments a delay)) done (state a) (state b) (state c) (holds x) (holds y) (holds z)
            (g.told timed delay is all sink) result
            (subst (λ (players : List Player). Writes (Next done) (exact_calls (setting_at time.moments (record b { players = players }) delay)) result (state b)
            (state c) (holds y) (holds z)) g.went.players
            (h.told timed delay (g.went.gives delay is) (still_told Is a b g.went all) (g.sink_tells ∙ sink)));
        reports = λ sink.
            writes_then First Next possible_calls done (state a) (state b) (state c) (holds x) (holds y) (holds z) (g.reports sink) result
            (h.reports (g.sink_tells ∙ sink));
        others = λ number other. h.others number other ∙ g.others number other;
        went = went_on Is a b c g.went h.went;
        faults = subst (λ (n : ℕ). RisesIf (has_write_fault result) n (faults z)) g.faults h.faults;
        sink_tells = h.sink_tells ∙ g.sink_tells;
      }

  -- the same part in other words
  pub goes_as : {T : Type 0} (Does Other : Part T) → Does ≡ Other → (result : Result T Stop) (a b : SessionSeen) (x y : K)
      → Goes {T = T} Does Is time result a b (object_of tells holds faults x y) → Goes {T = T} Other Is time result a b (object_of tells holds faults x y)
  goes_as {T = T} Does Other same result a b x y g = subst (λ (P : Part T). Goes P Is time result a b (object_of tells holds faults x y)) same g
