-- Which items of a modelled text were served.
use Rattle.std.proofs.Common.{◌≡◌, ℕ, ◌+◌, true, List, [], ◌∷◌, ◌++◌, Some, None, Ok, refl, sym, ap, ◌∙◌, append_assoc, append-nil}
use Rattle.std.proofs.Common.{length-append, arith}
use Rattle.pam_outside.specs.Streams.{SinkState}
use Rattle.report_step.specs.pam_room.specs.Module.{notes_of}
use Rattle.report_step.specs.pam_library.specs.Slots.{lists_of}
use Rattle.record_reader.specs.Run.{ItemFails, ItemStep, Looks}
use Rattle.record_reader.specs.Turns.{ServesItem}
use Rattle.cmd_run.specs.Asked.{Asking, FirstAsks}
use Rattle.cmd_run.specs.State.{Setting, RunState}
use Rattle.cmd_run.specs.Events.{Broken, LeadOn, MovesBy, Served}
use Rattle.cmd_run.specs.AnyWorld.{ProceedsBy}

module _ {Kind : Type 0} (looked : Looks) (asked : Asking Kind) (step : Setting → ItemStep RunState Kind) (setting : Setting) where
  abbrev ServedIn : ℕ → ℕ → RunState → RunState → List ℕ → List (List ℕ) → SinkState → SinkState → Type 0
  ServedIn = Served looked asked step setting

  abbrev BrokenIn : ℕ → ℕ → RunState → RunState → List ℕ → SinkState → SinkState → Type 0
  BrokenIn = Broken looked asked step setting

  lead-append : (xs ys : List (List ℕ)) (n m k : ℕ) (s t u : RunState) (ta tb : List ℕ) → LeadOn looked asked step setting n s xs m t ta
      → LeadOn looked asked step setting m t ys k u tb → LeadOn looked asked step setting n s (xs ++ ys) k u (ta ++ tb)
  lead-append [] ys n m k s t u ta tb a b = rw (a.2, ← a.0, ← a.1) b
  lead-append (x ∷ xs) ys n m k s t u ta tb a b =
      (a.0, a.1, a.2 ++ tb, ap (λ (l : List ℕ). l ++ tb) a.3 ∙ append_assoc a.1 a.2 tb, a.4, a.5, lead-append xs ys (n + 1) m k a.0 t u a.2 tb a.6 b)

  -- ---- none, or one

  pub none_served : (n : ℕ) (s : RunState) (input : List ℕ) (p : SinkState) → (others : List (List ℕ)) × ServedIn n n s s input others p p
  none_served n s input p = (
    looked n input true,
    record {
      served = [];
      among = refl;
      number = omega arith;
      text = [];
      written = sym (append-nil p.written);
      lead = (refl, refl, refl);
    },
  )

  module _ (fails : ItemFails RunState) where
    pub refused_served : (kind : Kind) (n : ℕ) (item : List ℕ) (s t : RunState) (p q : SinkState) (input : List ℕ)
        → ServesItem (step setting) fails (Ok (Some kind)) n item s t p q
        → (others : List (List ℕ)) × ServedIn n n s t input others p q
    refused_served kind n item s t p q input told = (
      looked n input true,
      record {
        served = [];
        among = refl;
        number = omega arith;
        text = told.text;
        written = told.written;
        lead = (refl, told.served.1, told.served.2);
      },
    )

    pub one_served : (n : ℕ) (item : List ℕ) (s t : RunState) (p q : SinkState) (input : List ℕ) (others : List (List ℕ)) → looked n input true ≡ item ∷ others
        → ServesItem (step setting) fails (Ok None) n item s t p q
        → MovesBy (notes_of setting.players) s.slots (asked n item) s.world.process.ledger t.world.process.ledger t.slots
        → ServedIn n (n + 1) s t input others p q
    one_served n item s t p q input others first told moves = record {
      served = item ∷ [];
      among = first;
      number = omega arith;
      text = told.text;
      written = told.written;
      lead = (t, told.text, [], sym (append-nil told.text), told.served, moves, (refl, refl, refl));
    }

  -- one item was begun, or none
  pub broken_off : (n : ℕ) (s t : RunState) (input part : List ℕ) (p q : SinkState) → q.written ≡ p.written ++ part
      → ProceedsBy (FirstAsks asked n (looked n input true)) (notes_of setting.players) s.world.process.ledger (lists_of s.slots) t.world.process.ledger
      (lists_of t.slots)
      → BrokenIn n n s t input p q
  broken_off n s t input part p q written later = record {
    middle = s;
    sink = p;
    others = looked n input true;
    served = record { served = []; among = refl; number = omega arith; text = []; written = sym (append-nil p.written); lead = (refl, refl, refl) };
    part = part;
    written = written;
    later = later;
  }

  -- ---- many

  pub nothing_served : (n : ℕ) (s : RunState) (input rest : List ℕ) (p : SinkState) → n ≡ 0 → rest ≡ input → ServedIn 0 n s s input (looked n rest true) p p
  nothing_served n s input rest p zero same = record {
    served = [];
    among = rw (zero, same) refl;
    number = omega (arith, zero);
    text = [];
    written = sym (append-nil p.written);
    lead = (zero, refl, refl);
  }

  pub served_on : (n m k : ℕ) (s t u : RunState) (input rest : List ℕ) (others : List (List ℕ)) (p q r : SinkState)
      → ServedIn n m s t input (looked m rest true) p q → ServedIn m k t u rest others q r → ServedIn n k s u input others p r
  served_on n m k s t u input rest others p q r a b = record {
    served = a.served ++ b.served;
    among = a.among ∙ ap (λ (ls : List (List ℕ)). a.served ++ ls) b.among ∙ sym (append_assoc a.served b.served others);
    number = omega (arith, a.number, b.number, length-append a.served b.served);
    text = a.text ++ b.text;
    written = b.written ∙ ap (λ (x : List ℕ). x ++ b.text) a.written ∙ append_assoc p.written a.text b.text;
    lead = lead-append a.served b.served n m k s t u a.text b.text a.lead b.lead;
  }

  pub served_to : (n m k : ℕ) (s t u : RunState) (input rest : List ℕ) (p q r : SinkState) → ServedIn n m s t input (looked m rest true) p q
      → (others : List (List ℕ)) × ServedIn m k t u rest others q r → (others : List (List ℕ)) × ServedIn n k s u input others p r
  served_to n m k s t u input rest p q r a b = (b.0, served_on n m k s t u input rest b.0 p q r a b.1)

  pub broken_on : (n m k : ℕ) (s t u : RunState) (input rest : List ℕ) (p q r : SinkState) → ServedIn n m s t input (looked m rest true) p q
      → BrokenIn m k t u rest q r → BrokenIn n k s u input p r
  broken_on n m k s t u input rest p q r a b = record {
    middle = b.middle;
    sink = b.sink;
    others = b.others;
    served = served_on n m k s t b.middle input rest b.others p q b.sink a b.served;
    part = b.part;
    written = b.written;
    later = b.later;
  }
