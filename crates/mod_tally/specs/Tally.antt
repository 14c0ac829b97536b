-- The tally file of pam_faillock(8), which has the failures of one user (the file's form is this project's own).
--
-- Its steps:
--   `failures_of`, `in_lines`: the lines of a text
--   `failures_of_version`: by the version that the first line names
--   `failure_in`: the failure of one line
use Rattle.std.specs.Prelude.{◌≡◌, ℕ, ◌+◌, ◌-◌, ◌^◌, ◌<◌, max, Bool, true, ◌==◌, ◌&&◌, ◌||◌, nat_le, nat_lt, nat_eq, if◌then◌else◌, List, [], ◌∷◌, ◌++◌, length, take, drop, filter, count_by, position, codes, Option, Some, None, Result, Ok, Err}
use Rattle.std.specs.Char.{is_ascii_digit}
use Rattle.std.specs.Fmt.{decimal}
use Rattle.std.specs.List.{AllByRecursion, ends_with, flat_map, list_all}
use Rattle.std.specs.Str.{bytes_eq}
use Rattle.pam_base.specs.Lines.{lines_of}
use Rattle.pam_base.specs.Number.{value_of_digits}
use Rattle.pam_base.specs.declared.fault.Refuse.{Refuse}
use Rattle.pam_base.specs.declared.fault.Refuse.TheVariants.{NoMemory, Named}
use Rattle.mod_tally.specs.declared.tally.Damaged.{Damaged}
use Rattle.mod_tally.specs.declared.tally.Failure.{Failure}
use Rattle.mod_tally.specs.declared.tally.Version.{Version}
use Rattle.mod_tally.specs.declared.tally.Version.TheVariants.{One, Two}
use Rattle.mod_tally.specs.Source.{put_before, spelled, unspelled}

-- ---- a line

-- a time is 1 to 13 decimal digits
abbrev pub moment_of : List ℕ → Option ℕ
moment_of word = if nat_lt 0 (length word) && nat_le (length word) 13
    && list_all is_ascii_digit word then Some (value_of_digits word) else None

-- a failure of which no more is known: U
abbrev pub unknown_at : ℕ → Failure
unknown_at moment = record { moment = moment; kind = 85; source = [] }

abbrev pub with_moment : Option ℕ → Option Failure
with_moment None = None
with_moment (Some moment) = Some (unknown_at moment)

-- a failure came from a remote host, a terminal or a service: R, T or S
abbrev pub is_kind : ℕ → Bool
is_kind k = k == 82 || k == 84 || k == 83

abbrev pub with_source : ℕ → ℕ → Option (List ℕ) → Option Failure
with_source moment kind None = None
with_source moment kind (Some []) = None
with_source moment kind (Some (b ∷ bs)) =
    Some (record { moment = moment; kind = kind; source = b ∷ bs })

-- after the time comes U, or the kind and a source, which isn't empty
abbrev pub with_origin : List ℕ → Option ℕ → Option Failure
with_origin word None = None
with_origin [] (Some moment) = None
with_origin (k ∷ []) (Some moment) = if k == 85 then Some (unknown_at moment) else None
with_origin (k ∷ s ∷ word) (Some moment) =
    if is_kind k && s == 32 then with_source moment k (unspelled word) else None

abbrev pub cut_at : Option ℕ → List ℕ → Option Failure
cut_at None line = None
cut_at (Some space) line = with_origin (drop (space + 1) line) (moment_of (take space line))

-- a line of version 1 is a time; one of version 2 is a time, a space, and the origin
abbrev pub failure_in : Version → List ℕ → Option Failure
failure_in One line = with_moment (moment_of line)
failure_in Two line = cut_at (position (λ b. b == 32) line) line

-- ---- the file

-- what each line has, if each is well formed
abbrev pub all_in : {A : Type 0} → (List ℕ → Option A) → List (List ℕ) → Option (List A)
all_in form [] = Some []
all_in form (l ∷ ls) = put_before (form l) (all_in form ls)

abbrev pub version_of : List ℕ → Option Version
version_of header = if bytes_eq header (codes "faillock 2") then Some Two
    else if bytes_eq header (codes "faillock 1") then Some One else None

abbrev pub failures_of_version : Option Version → List (List ℕ) → Option (List Failure)
failures_of_version None lines = None
failures_of_version (Some version) lines = all_in (failure_in version) lines

-- the first line names the version
abbrev pub in_lines : List (List ℕ) → Option (List Failure)
in_lines [] = None
in_lines (header ∷ lines) = failures_of_version (version_of header) lines

-- the failures of a text, each line of which ends with a newline; None if it is damaged
unfoldable pub failures_of : List ℕ → Option (List Failure)
failures_of text = if ends_with nat_eq text (10 ∷ []) then in_lines (lines_of text) else None

-- unless memory ran out, what was returned are the failures of the text, or it is damaged
abbrev pub ReadsTally : Result (List Failure) (Refuse Damaged) → List ℕ → Type 0
ReadsTally (Ok failures) text = failures_of text ≡ Some failures
ReadsTally (Err (Named damaged)) text = failures_of text ≡ None
ReadsTally (Err NoMemory) text = Unit {0}

-- ---- what is written, always of version 2

abbrev pub source_text : List ℕ → List ℕ
source_text [] = []
source_text (b ∷ bs) = 32 ∷ spelled (b ∷ bs)

abbrev pub failure_text : Failure → List ℕ
failure_text f = decimal f.moment ++ (32 ∷ f.kind ∷ source_text f.source)

abbrev pub failure_line : Failure → List ℕ
failure_line f = failure_text f ++ 10 ∷ []

unfoldable pub tally_text : List Failure → List ℕ
tally_text failures = codes "faillock 2\n" ++ flat_map failure_line failures

-- ---- which failures count

abbrev pub latest : List Failure → ℕ
latest [] = 0
latest (f ∷ fs) = max f.moment (latest fs)

-- whether a failure counts, if this is the latest time
abbrev pub counts : ℕ → ℕ → Failure → Bool
counts interval greatest f = nat_lt (greatest - f.moment) interval

-- the failures less than n seconds before the latest of them
abbrev pub counting : ℕ → List Failure → List Failure
counting interval failures = filter (counts interval (latest failures)) failures

abbrev pub is_soon : ℕ → ℕ → ℕ → Bool
is_soon unlock greatest now = unlock == 0 || nat_lt now (greatest + unlock)

-- the user is locked if n failures count, there is at least one, and the time after which the lock ends, if there is
-- one, hasn't passed
abbrev pub is_locked : ℕ → ℕ → ℕ → ℕ → List Failure → Bool
is_locked deny interval unlock now failures =
    nat_lt 0 (length failures)
    && nat_le deny (count_by (counts interval (latest failures)) failures)
    && is_soon unlock (latest failures) now

-- ---- failures that can be written and read

abbrev pub IsOrigin : ℕ → List ℕ → Type 0
IsOrigin kind [] = kind ≡ 85
IsOrigin kind (b ∷ bs) = (is_kind kind ≡ true) × AllByRecursion (λ c. c < 256) (b ∷ bs)

-- a time of at most 13 digits; no source if the kind is U, otherwise one of bytes
pub record IsFailure (f : Failure) : Type 0 where
  pub moment : f.moment < 10 ^ 13
  pub origin : IsOrigin f.kind f.source
