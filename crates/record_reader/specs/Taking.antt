-- What a reader of items reads from its source.
use Rattle.std.specs.Prelude.{◌≡◌, ◌⊎◌, ℕ, ◌+◌, ◌≤◌, ◌<◌, Bool, true, false, List, [], ◌++◌, ◌∷◌, length, Result, Ok, Err, IfOk}
use Rattle.pam_base.specs.declared.fault.Failed.{Failed}
use Rattle.pam_outside.specs.Streams.{SourceState}
use Rattle.record_reader.specs.declared.reader.NextItem.{NextItem}
use Rattle.record_reader.specs.declared.reader.NextItem.TheVariants.{Item, Rest, End}
use Rattle.record_reader.specs.FirstItem.{IsItem}
use Rattle.record_reader.specs.Run.{Looks, Refuses}

-- n more bytes are held after the others
abbrev pub Adds : ℕ → List ℕ → List ℕ → Type 0
Adds n before held = (got : List ℕ) × (length got ≡ n) × (held ≡ before ++ got)

-- one read: the bytes it returned are held
pub record Fills (result : Result ℕ Failed) (before held : List ℕ) (old new : SourceState) : Type
    0 where
  pub got : List ℕ
  pub held_is : held ≡ before ++ got
  pub source : old.left ≡ got ++ new.left
  pub calls : new.calls ≤ old.calls + 1
  pub count : IfOk result (λ n. length got ≡ n)
  pub room : length got ≤ 512
  pub end : result ≡ Ok 0 → new.left ≡ []
  pub ends : new.reads_at_end ≤ old.reads_at_end + 1
  pub ends_on : IfOk result (λ n. 0 < n → new.reads_at_end ≤ old.reads_at_end)

-- the first item of the bytes held
abbrev pub IsFound : Looks → Result NextItem Failed → ℕ → List ℕ → Type 0
IsFound looked (Ok (Item item_size size)) n held = IsItem looked n item_size size held
IsFound looked (Ok Rest) n held = 0 < length held
IsFound looked (Ok End) n held = held ≡ []
IsFound looked (Err e) n held = looked n held false ≡ []

-- All bytes held are the last item: the input has ended, or they are refused in every state.
pub record IsLast (looked : Looks) (refuses : Refuses) (n : ℕ) (held left : List ℕ) : Type 0 where
  pub ended : Bool
  pub at_end : ended ≡ true → left ≡ []
  pub seen : looked n held ended ≡ held ∷ []
  pub fits : (ended ≡ true) ⊎ refuses n held

-- if the source has ended
abbrev pub Ended : Looks → Refuses → Result NextItem Failed → ℕ → List ℕ → List ℕ → Type 0
Ended looked refuses (Ok (Item item_size size)) n held left = Unit {0}
Ended looked refuses (Ok Rest) n held left = IsLast looked refuses n held left
Ended looked refuses (Ok End) n held left = left ≡ []
Ended looked refuses (Err e) n held left = Unit {0}

-- the one call that may return no byte
abbrev pub more_calls : Result NextItem Failed → ℕ
more_calls (Ok (Item item_size size)) = 0
more_calls r = 1

-- the last read, by its result: it read at most a buffer, and before it there was no item to process
pub record LastGot (looked : Looks) (n : ℕ) (before got : List ℕ) : Type 0 where
  pub early : List ℕ
  pub late : List ℕ
  pub parts : got ≡ early ++ late
  pub room : length late ≤ 512
  pub waited : looked n (before ++ early) false ≡ []

-- the bytes read until an item is complete, or until the bytes held are refused
pub record Finds (looked : Looks) (refuses : Refuses) (result : Result NextItem Failed) (n : ℕ)
    (before held : List ℕ) (old new : SourceState) : Type 0 where
  pub got : List ℕ
  pub held_is : held ≡ before ++ got
  pub source : old.left ≡ got ++ new.left
  pub calls : new.calls ≤ old.calls + length got + more_calls result
  pub ends : new.reads_at_end ≤ old.reads_at_end + more_calls result
  pub last : (got ≡ []) ⊎ LastGot looked n before got
  pub ended : Ended looked refuses result n held new.left
