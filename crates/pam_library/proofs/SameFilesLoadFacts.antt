-- A load over two file stores with the same files and no planned failure has the same result, except for the number of
-- accesses.
use Rattle.std.proofs.Common.{◌≡◌, ℕ, ◌+◌, Bool, true, false, if◌then◌else◌, List, [], ◌∷◌, Option, Result, Ok, Err, refl, sym, subst}
use Rattle.std.specs.Prelude.{nat_lt, nat_le}
use Rattle.pam_base.specs.declared.fault.FaultKind.TheVariants.{TooDeep, TooManyLines, TooManyFiles, ReadFailed}
use Rattle.pam_outside.specs.Counts.{next_count, fails_next}
use Rattle.pam_outside.specs.Files.{File, VaultState, is_failing, no_locks}
use Rattle.pam_handle.specs.service_load.specs.Entry.{entry_of, directory_name}
use Rattle.pam_handle.specs.service_load.specs.Files.{FileContent, absent, faulty, holds, held, is_in_directory}
use Rattle.pam_handle.specs.service_load.specs.FirstFault.{Counts, Stop, absent_file, asked, take_one, checked_rule, fault_at, going_on, held_file, look, refused_opening, stop}
use Rattle.pam_handle.specs.service_load.specs.Load.{directory_exists, loaded, loaded_from}
use Rattle.pam_handle.specs.service_load.specs.Loading.{texts_of}
use Rattle.pam_handle.specs.service_load.specs.Order.{Opener, as_service, as_other, as_last, by_rule, Item, begin, opening, checked, made, order}
use Rattle.pam_library.specs.Alike.{NoCallFails}
use Rattle.pam_library.proofs.Quiet.{quiet_counted, quiet_now, quiet_with_files}

-- by the numbers of the accesses planned to fail, and the number of accesses made
abbrev pub QuietAt : List ℕ → ℕ → Type 0
QuietAt fails calls = NoCallFails (record { files = []; locks = no_locks; calls = calls; fails = fails })

none_fails : (fails : List ℕ) (calls : ℕ) → QuietAt fails calls → fails_next calls fails ≡ false
none_fails fails calls quiet = quiet_now (record { files = []; locks = no_locks; calls = calls; fails = fails }) quiet

one_more : (fails : List ℕ) (calls : ℕ) → QuietAt fails calls → QuietAt fails (next_count calls)
one_more fails calls quiet = quiet_counted (record { files = []; locks = no_locks; calls = calls; fails = fails }) quiet

module _ (some others : List ℕ) where
  -- two results are the same except for the number of accesses
  pub record CountsTwins (c d : Counts) : Type 0 where
    pub rest : record c { calls = d.calls } ≡ d
    pub first : QuietAt some c.calls
    pub second : QuietAt others d.calls

  pub record StopTwins (s t : Stop) : Type 0 where
    pub rest : record s { calls = t.calls } ≡ t
    pub first : QuietAt some s.calls
    pub second : QuietAt others t.calls

  abbrev pub LookTwins : Result Counts Stop → Result Counts Stop → Type 0
  LookTwins (Ok c) (Ok d) = CountsTwins c d
  LookTwins (Err s) (Err t) = StopTwins s t
  LookTwins a b = ⊥

  module _ (c : Counts) (k : ℕ) (first : QuietAt some c.calls) (second : QuietAt others k) where
    absent_twins : (opener : Opener) → LookTwins (absent_file c opener) (absent_file (record c { calls = k }) opener)
    absent_twins as_service = record { rest = refl; first = first; second = second }
    absent_twins as_other = record { rest = refl; first = first; second = second }
    absent_twins (as_last service) = record { rest = refl; first = first; second = second }
    absent_twins (by_rule name line) = record { rest = refl; first = first; second = second }

    held_twins : (file : _) (opener : Opener) (h : FileContent) → LookTwins (held_file c file opener h) (held_file (record c { calls = k }) file opener h)
    held_twins file opener absent = absent_twins opener
    held_twins file opener (faulty fault) = record { rest = refl; first = first; second = second }
    held_twins file opener (holds rules) = record { rest = refl; first = first; second = second }

  module _ (texts : List ℕ → Option (List ℕ)) where
    after_twins : (c : Counts) (k : ℕ) → QuietAt some c.calls → QuietAt others k → (i : Item)
        → LookTwins (take_one texts some c i) (take_one texts others (record c { calls = k }) i)
    after_twins c k first second begin = record { rest = refl; first = first; second = second }
    after_twins c k first second (opening file level opener) =
        let d : Counts = record c { calls = k } in
        let fault : Result Counts Stop = stop (asked c) file.name 0 ReadFailed in
        let other_fault : Result Counts Stop = stop (asked d) file.name 0 ReadFailed in
        let found : Result Counts Stop = held_file (asked c) file opener (held texts file) in
        let other_found : Result Counts Stop = held_file (asked d) file opener (held texts file) in
        let answered : LookTwins (if fails_next c.calls some then fault else found) (if fails_next k others then other_fault else other_found) =
        subst (λ (b : Bool). LookTwins (if b then fault else found) (if fails_next k others then other_fault else other_found)) (sym (none_fails some c.calls first))
        (subst (λ (b : Bool). LookTwins found (if b then other_fault else other_found)) (sym (none_fails others k second))
        (held_twins (asked c) (next_count k) (one_more some c.calls first) (one_more others k second) file opener (held texts file))) in
        elim (nat_lt 16 level) as (λ (x : Bool). LookTwins
        (if x then refused_opening c file opener TooDeep else if nat_le 256 c.openings then refused_opening c file opener TooManyFiles else (if fails_next c.calls some then fault else found))
        (if x then refused_opening d file opener TooDeep else if nat_le 256 c.openings then refused_opening d file opener TooManyFiles else (if fails_next k others then other_fault else other_found))) [
          | true ↦ record { rest = refl; first = first; second = second }
          | false ↦ elim (nat_le 256 c.openings) as (λ (x : Bool). LookTwins
              (if x then refused_opening c file opener TooManyFiles else (if fails_next c.calls some then fault else found))
              (if x then refused_opening d file opener TooManyFiles else (if fails_next k others then other_fault else other_found))) [
                | true ↦ record { rest = refl; first = first; second = second }
                | false ↦ answered
              ]
        ]
    after_twins c k first second (checked file rule) =
        elim (entry_of (is_in_directory file) rule) as (λ e. LookTwins (checked_rule c file.name rule.line e) (checked_rule (record c { calls = k }) file.name rule.line e)) [
          | Ok entry ↦ record { rest = refl; first = first; second = second }
          | Err kind ↦ record { rest = refl; first = first; second = second }
        ]
    after_twins c k first second (made name line) = elim (nat_le 4096 c.lines) as (λ (x : Bool). LookTwins
        (if x then stop c name line TooManyLines else Ok (record c { lines = c.lines + 1 }))
        (if x then stop (record c { calls = k }) name line TooManyLines else Ok (record c { calls = k; lines = c.lines + 1 }))) [
          | true ↦ record { rest = refl; first = first; second = second }
          | false ↦ record { rest = refl; first = first; second = second }
        ]

    going_twins : (a b : Result Counts Stop) (f g : Counts → Result Counts Stop) → LookTwins a b
        → ((c d : Counts) → CountsTwins c d → LookTwins (f c) (g d)) → LookTwins (going_on a f) (going_on b g)
    going_twins (Ok c) (Ok d) f g t more = more c d t
    going_twins (Err s) (Err u) f g t more = t
    going_twins (Ok c) (Err s) f g t more = absurd t
    going_twins (Err s) (Ok c) f g t more = absurd t

    looks : (is : List Item) (c d : Counts) → CountsTwins c d → LookTwins (look texts some c is) (look texts others d is)
    unfolding look
    looks [] c d t = t
    looks (i ∷ is) c d t =
        going_twins (take_one texts some c i) (take_one texts others d i) (λ x. look texts some x is) (λ x. look texts others x is)
        (subst (λ (x : Counts). LookTwins (take_one texts some c i) (take_one texts others x i)) t.rest (after_twins c d.calls t.first t.second i))
        (λ x y u. looks is x y u)

-- ---- the load of a service

quiet_at : (v : VaultState) → NoCallFails v → QuietAt v.fails v.calls
quiet_at v quiet = quiet_with_files [] no_locks v quiet

same_files : (v w : VaultState) (root service : List ℕ) → NoCallFails v → NoCallFails w
    → LookTwins v.fails w.fails (loaded v root service) (loaded (record w { files = v.files }) root service)
same_files v w root service first second =
    let w' : VaultState = record w { files = v.files } in
    let from : LookTwins v.fails w.fails (loaded_from (directory_exists v root) v root service (next_count v.calls)) (loaded_from (directory_exists v root) w' root service (next_count w.calls)) =
    looks v.fails w.fails (texts_of root v) (order (texts_of root v) (directory_exists v root) service) (record { calls = next_count v.calls; openings = 0; lines = 0 }) (record { calls = next_count w.calls; openings = 0; lines = 0 })
    (record { rest = refl; first = one_more v.fails v.calls (quiet_at v first); second = one_more w.fails w.calls (quiet_at w second) }) in
    let failed : (u : VaultState) → Result Counts Stop = λ u. Err (record { fault = fault_at directory_name 0 ReadFailed; calls = next_count u.calls }) in
    subst (λ (b : Bool). LookTwins v.fails w.fails
    (if b then failed v else loaded_from (directory_exists v root) v root service (next_count v.calls))
    (if is_failing w' then failed w' else loaded_from (directory_exists v root) w' root service (next_count w.calls))) (sym (quiet_now v first))
    (subst (λ (b : Bool). LookTwins v.fails w.fails
    (loaded_from (directory_exists v root) v root service (next_count v.calls))
    (if b then failed w' else loaded_from (directory_exists v root) w' root service (next_count w.calls))) (sym (quiet_now w second)) from)

pub loaded_twins : (v w : VaultState) (root root' service : List ℕ) → v.files ≡ w.files → root ≡ root' → NoCallFails v → NoCallFails w
    → LookTwins v.fails w.fails (loaded v root service) (loaded w root' service)
loaded_twins v w root root' service files roots first second =
    subst (λ (fs : List File). LookTwins v.fails w.fails (loaded v root service) (loaded (record w { files = fs }) root' service)) files
    (subst (λ (r : List ℕ). LookTwins v.fails w.fails (loaded v root service) (loaded (record w { files = v.files }) r service)) roots
    (same_files v w root service first second))

-- a file store without a planned failure has none with another number of accesses either
pub quiet_with_calls : (v : VaultState) (calls : ℕ) → QuietAt v.fails calls → NoCallFails (record v { calls = calls })
quiet_with_calls v calls quiet = quiet_with_files v.files v.locks (record { files = []; locks = no_locks; calls = calls; fails = v.fails }) quiet
