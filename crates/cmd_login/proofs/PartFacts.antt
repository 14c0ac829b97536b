-- What parts of a login write, one after another.
use Rattle.std.proofs.Common.{◌≡◌, ℕ, List, [], ◌++◌, Result, Ok, Err, inl, inr, refl, sym, ap, ◌∙◌, append_assoc, append-nil, length-append, arith}
use Rattle.pam_outside.specs.Streams.{SinkState}
use Rattle.cmd_run.specs.State.{RunState}
use Rattle.record_reader.specs.declared.ending.Stop.{Stop}
use Rattle.cmd_login.specs.Login.{KnownCalls, Part, Returns, Then}
use Rattle.cmd_login.specs.Reported.{Writes}

pub writes_nothing : {T : Type 0} (t : T) (known : KnownCalls) (s : RunState) (p : SinkState) → Writes {T = T} (Returns t) known (Ok t) s s p p
writes_nothing t known s p = record {
  text = [];
  written = sym (append-nil p.written);
  calls = omega arith;
  calls_ok = omega arith;
  does = (refl, refl, refl);
}

-- the same by another part
pub writes_so : {T U : Type 0} (Does : Part T) (Goes : Part U) (known : KnownCalls) (t : T) (u : U) (s after : RunState) (p q : SinkState)
    → Writes {T = T} Does known (Ok t) s after p q → ((text : List ℕ) → Does known s (Ok t) after text → Goes known s (Ok u) after text)
    → Writes {T = U} Goes known (Ok u) s after p q
writes_so Does Goes known t u s after p q w so = record {
  text = w.text;
  written = w.written;
  calls = w.calls;
  calls_ok = w.calls_ok;
  does = so w.text w.does;
}

module _ {T U : Type 0} (First : Part T) (Next : T → Part U) (known : KnownCalls) where
  pub writes_stopped : (stop : Stop) (s after : RunState) (p q : SinkState) → Writes {T = T} First known (Err stop) s after p q
      → Writes {T = U} (Then First Next) known (Err stop) s after p q
  writes_stopped stop s after p q w = record {
    text = w.text;
    written = w.written;
    calls = w.calls;
    calls_ok = tt;
    does = inr (record { stop = stop; result_is = refl; begins = w.does });
  }

  module _ (done : T) (s m t : RunState) (p q r : SinkState) (a : Writes {T = T} First known (Ok done) s m p q) where
    both_written : (next text : List ℕ) → next ≡ q.written ++ text → next ≡ p.written ++ (a.text ++ text)
    both_written next text e = e ∙ ap (λ (x : List ℕ). x ++ text) a.written ∙ append_assoc p.written a.text text

    pub writes_then : (result : Result U Stop) → Writes {T = U} (Next done) known result m t q r → Writes {T = U} (Then First Next) known result s t p r
    writes_then (Ok u) b = record {
      text = a.text ++ b.text;
      written = both_written r.written b.text b.written;
      calls = omega (arith, a.calls_ok, b.calls, length-append a.text b.text);
      calls_ok = omega (arith, a.calls_ok, b.calls_ok, length-append a.text b.text);
      does = inl (record { done = done; middle = m; front = a.text; back = b.text; text_is = refl; begins = a.does; follows = b.does });
    }
    writes_then (Err stop) b = record {
      text = a.text ++ b.text;
      written = both_written r.written b.text b.written;
      calls = omega (arith, a.calls_ok, b.calls, length-append a.text b.text);
      calls_ok = tt;
      does = inl (record { done = done; middle = m; front = a.text; back = b.text; text_is = refl; begins = a.does; follows = b.does });
    }
