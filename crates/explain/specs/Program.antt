-- The program: its arguments, what it writes, and its exit status (this project's own).
use Rattle.std.specs.Prelude.{◌≡◌, ◌≢◌, ◌⊎◌, ℕ, nat_lt, Bool, true, false, List, [], ◌∷◌, ◌++◌, length, codes, string_bytes, String, Option, Some, None}
use Rattle.std.specs.declared.alloc.Global.{Global}
use Rattle.pam_outside.specs.Counts.{Rose, RisesIf}
use Rattle.pam_outside.specs.Files.{VaultState}
use Rattle.pam_outside.specs.Streams.{SinkState}
use Rattle.explain.specs.declared.explaining.Output.{Output}
use Rattle.cmd_audit.specs.declared.transcript.Transcript.{Transcript}
use Rattle.cmd_audit.specs.declared.transcript.Transcript.TheVariants.{Whole, TooLong, Unread}
use Rattle.explain.specs.declared.program.Target.{Target}
use Rattle.explain.specs.Explained.{Written, written, IsExplained, Explains, IsOutputOf, unread_explained}
use Rattle.cmd_audit.specs.Transcript.{is_unread}

-- ---- the arguments

pub record PlainTarget : Type 0 where
  pub root : List ℕ
  pub service : List ℕ

-- the directory that files are under, which is the first argument
abbrev pub root_of : List (String Global) → List ℕ
root_of [] = codes "/"
root_of (root ∷ words) = string_bytes root

-- ROOT SERVICE
abbrev pub asked_of : List (String Global) → Option PlainTarget
asked_of (root ∷ service ∷ []) =
    Some (record { root = string_bytes root; service = string_bytes service })
asked_of words = None

-- the command that was found in them
abbrev pub asked : Option Target → Option PlainTarget
asked None = None
asked (Some place) = Some (record { root = place.root.now; service = place.service.now })

-- ---- what is written

abbrev pub usage_written : Written
usage_written = written 2 (codes "usage: explain ROOT SERVICE < REPORT\n")

abbrev pub too_long_written : Written
too_long_written = written 12 (codes "transcript too long\n")

-- ---- with modelled objects: what is written has this property

-- of what was read
abbrev pub ExplainsRead : (Written → Type 0) → Transcript → VaultState → List ℕ → List ℕ → VaultState
    → Type 0
ExplainsRead P (Whole text) old root service new = Explains P old root service text new
ExplainsRead P TooLong old root service new = P too_long_written
ExplainsRead P Unread old root service new = P unread_explained

-- depending on whether the input is too long
abbrev pub ExplainsIf : Bool → (Written → Type 0) → VaultState → List ℕ → List ℕ → List ℕ
    → VaultState → Type 0
ExplainsIf true P old root service input new = P too_long_written
ExplainsIf false P old root service input new = Explains P old root service input new

-- of an input of these bytes; or nothing, if reading it failed
abbrev pub ExplainsInput : (Written → Type 0) → VaultState → List ℕ → List ℕ → List ℕ → VaultState
    → ℕ → ℕ → Type 0
ExplainsInput P old root service input new before now =
    ExplainsIf (nat_lt 1048576 (length input)) P old root service input new
    ⊎ (P unread_explained × Rose before now)

-- what is written for these arguments
abbrev pub Answers : (Written → Type 0) → Option PlainTarget → VaultState → List ℕ → VaultState → ℕ → ℕ
    → Type 0
Answers P None old input new before now = P usage_written
Answers P (Some words) old input new before now =
    ExplainsInput P old words.root words.service input new before now

-- the text is written, or with status 6 a prefix of it
pub record Exits (status : ℕ) (w : Written) (old new : SinkState) : Type 0 where
  pub front : List ℕ
  pub back : List ℕ
  pub parts : w.text ≡ front ++ back
  pub adds : new.written ≡ old.written ++ front
  pub ends : ((status ≡ w.status) × (front ≡ w.text)) ⊎ (status ≡ 6)

-- if an allocation failed, nothing is written and the status is 4
abbrev pub Ends : ℕ → Option PlainTarget → VaultState → List ℕ → VaultState → ℕ → ℕ → SinkState
    → SinkState → Type 0
Ends status words old input new before now out_old out_new =
    ((status ≡ 4) × (out_new ≡ out_old))
    ⊎ Answers (λ w. Exits status w out_old out_new) words old input new before now

-- ---- with any objects

-- of what was read, with the failures of the files before and after it
abbrev pub IsOutputOfRead : Output → Transcript → ℕ → ℕ → Type 0
IsOutputOfRead e (Whole text) before now = IsOutputOf e text before now
IsOutputOfRead e TooLong before now = IsExplained e too_long_written × (now ≡ before)
IsOutputOfRead e Unread before now = IsExplained e unread_explained × (now ≡ before)

-- of some report, with the failures of the input and of the files
pub record IsOutputOfInput (e : Output) (input_before input_now before now : ℕ) : Type 0 where
  pub report : Transcript
  pub read : RisesIf (is_unread report) input_before input_now
  pub shown : IsOutputOfRead e report before now

-- what the status of an output says about the arguments and about failures
pub record Causes (status : ℕ) (words : Option PlainTarget) (input_before input_now before now : ℕ) :
    Type 0 where
  pub usage : words ≡ None → status ≡ 2
  pub no_usage : status ≡ 2 → words ≡ None
  pub unread : status ≡ 5 → Rose input_before input_now ⊎ Rose before now
  pub memory : status ≢ 4
  pub unwritten : status ≢ 6

-- the status of an output, unless a write failed
abbrev pub Leaves : ℕ → ℕ → ℕ → ℕ → Type 0
Leaves status given before now =
    ((status ≡ given) × (now ≡ before)) ⊎ ((status ≡ 6) × Rose before now)
