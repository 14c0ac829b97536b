-- What the items of a stream ask for, whatever the items are (this project's own).
use Rattle.std.specs.Prelude.{◌≡◌, ℕ, ◌+◌, ◌<◌, All, Bool, true, List, [], ◌∷◌, ◌++◌, length, Result, Ok, IsTrue}
use Rattle.pam_base.specs.declared.call.AppCall.TheVariants.{End}
use Rattle.script_lang.specs.declared.line.Line.{Line}
use Rattle.script_lang.specs.declared.line.Line.TheVariants.{Step}
use Rattle.record_reader.specs.Run.{Looks}

-- what an item asks for that follows n others, as a line of a script says it, or why it is refused
abbrev pub Asking : Type 0 → Type 0
Asking Kind = ℕ → List ℕ → Result Line Kind

-- a line asks for the end of the transaction of this number, with this status
abbrev pub IsEndLine : Line → ℕ → ℕ → Type 0
IsEndLine line number status = line ≡ Step (record { number = number; call = End status })

-- an item does
abbrev pub IsEnd : {Kind : Type 0} → Result Line Kind → ℕ → ℕ → Type 0
IsEnd asked number status = asked ≡ Ok (Step (record { number = number; call = End status }))

module _ {Kind : Type 0} (asked : Asking Kind) where
  -- the first of some items asks for this end; n items come before them
  abbrev pub FirstAsks : ℕ → List (List ℕ) → ℕ → ℕ → Type 0
  FirstAsks n [] number status = ⊥
  FirstAsks n (item ∷ items) number status = IsEnd (asked n item) number status

  -- an item isn't refused, and consists of bytes
  pub record IsAccepted (n : ℕ) (item : List ℕ) : Type 0 where
    pub line : Line
    pub asks : asked n item ≡ Ok line
    pub bytes : All (λ b. b < 256) item

  -- several such items
  abbrev pub AreAccepted : ℕ → List (List ℕ) → Type 0
  AreAccepted n [] = Unit {0}
  AreAccepted n (item ∷ items) = IsAccepted n item × AreAccepted (n + 1) items

module _ {Kind : Type 0} (looked : Looks) (asked : Asking Kind) where
  -- one of the items of a text asks for this end, and none before it is refused
  pub record HasEndAmong (n : ℕ) (text : List ℕ) (number status : ℕ) : Type 0 where
    pub before : List (List ℕ)
    pub item : List ℕ
    pub followed : List (List ℕ)
    pub among : looked n text true ≡ before ++ item ∷ followed
    pub accepted : AreAccepted asked n before
    pub asks : IsEnd (asked (n + length before) item) number status
    pub bytes : All (λ b. b < 256) item

  -- if the text is modelled
  abbrev pub IsEndAmong : Bool → ℕ → List ℕ → ℕ → ℕ → Type 0
  IsEndAmong tells n text number status = IsTrue tells → HasEndAmong n text number status

  -- after some items of a text, none of which is refused, another text begins
  pub record LeadsOn (n : ℕ) (text : List ℕ) (m : ℕ) (rest : List ℕ) : Type 0 where
    pub items : List (List ℕ)
    pub number : m ≡ n + length items
    pub accepted : AreAccepted asked n items
    pub among : looked n text true ≡ items ++ looked m rest true
