-- The search for an item: the bytes read so far.
use Rattle.std.proofs.Common.{◌≡◌, ℕ, ◌+◌, ◌≤◌, ◌⊎◌, inl, Bool, true, false, cond, eqb, List, [], ◌∷◌, ◌++◌, length, Ok, refl, ap, ◌∙◌, arith}
use Rattle.std.proofs.lemmas.Bool.{eqb-false}
use Rattle.std.proofs.lemmas.List.{append-nil, nil_from_length}
use Rattle.pam_outside.specs.Streams.{SourceState}
use Rattle.record_reader.specs.Run.{Looks, Refuses}
use Rattle.record_reader.specs.Taking.{Fills, Finds, LastGot}
use Rattle.record_reader.specs.Cutting.{Cuts}
use Rattle.record_reader.specs.declared.reader.NextItem.TheVariants.{Rest, End}

-- some bytes were read, at least one by each call, and none at the end of the source
pub record IsFinding (looked : Looks) (n : ℕ) (before held : List ℕ) (old new : SourceState) : Type 0 where
  pub got : List ℕ
  pub held_is : held ≡ before ++ got
  pub source : old.left ≡ got ++ new.left
  pub calls : new.calls ≤ old.calls + length got
  pub ends : new.reads_at_end ≤ old.reads_at_end
  pub last : (got ≡ []) ⊎ LastGot looked n before got

-- the source has ended and there was no item to process
module _ (looked : Looks) (refuses : Refuses) (cuts : Cuts looked) (n : ℕ) (before held now : List ℕ) (old x y : SourceState) (f : IsFinding looked n before held old x) (waits : looked n held false ≡ []) (fill : Fills (Ok 0) held now x y) where
  none : fill.got ≡ []
  none = nil_from_length fill.got (omega (arith, fill.count))

  same : now ≡ held
  same = fill.held_is ∙ ap (λ (g : List ℕ). held ++ g) none ∙ append-nil held

  source : old.left ≡ f.got ++ y.left
  source = f.source ∙ ap (λ (l : List ℕ). f.got ++ l) (fill.source ∙ ap (λ (g : List ℕ). g ++ y.left) none)

  seen : (length now ≡ 0 → ⊥) → looked n now true ≡ now ∷ []
  seen some = cuts.rest n now (ap (λ (h : List ℕ). looked n h false) same ∙ waits) (omega (arith, some))

  ends_by : (b : Bool) → eqb (length now) 0 ≡ b → Finds looked refuses (Ok (cond b End Rest)) n before now old y
  ends_by true e = record {
    got = f.got;
    held_is = same ∙ f.held_is;
    source = source;
    calls = omega (arith, f.calls, fill.calls);
    ends = omega (arith, f.ends, fill.ends);
    last = f.last;
    ended = fill.end refl;
  }
  ends_by false e = record {
    got = f.got;
    held_is = same ∙ f.held_is;
    source = source;
    calls = omega (arith, f.calls, fill.calls);
    ends = omega (arith, f.ends, fill.ends);
    last = f.last;
    ended = record { ended = true; at_end = λ h. fill.end refl; seen = seen (eqb-false (length now) 0 e); fits = inl refl };
  }

  pub at_end : Finds looked refuses (Ok (cond (eqb (length now) 0) End Rest)) n before now old y
  at_end = ends_by (eqb (length now) 0) refl
