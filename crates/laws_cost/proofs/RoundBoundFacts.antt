-- What a setting without a fault asks for: one of two digests, and a bounded number of rounds.
use Rattle.std.proofs.Common.{◌≡◌, ℕ, ◌≤◌, ◌<◌, max, Bool, true, false, not, if◌then◌else◌, List, length, drop, nat_lt, Option, Some, None}
use Rattle.std.proofs.Common.{Result, Ok, codes, refl, ap, subst, arith, ltb-false}
use Rattle.std.specs.Prelude.{slice_index}
use Rattle.std.specs.Option.{option_or, unwrap_or}
use Rattle.sha2.specs.Sha256 as narrow
use Rattle.sha2.specs.Sha512 as wide
use Rattle.sha2.proofs.Facts256.{length-sha256}
use Rattle.sha2.proofs.Facts512.{length-sha512}
use Rattle.sha_crypt.specs.declared.setting.SettingFault.{SettingFault}
use Rattle.sha_crypt.specs.declared.setting.SettingFault.TheVariants.{BadRounds, TooManyRounds}
use Rattle.sha_crypt.specs.Digest.{digest}
use Rattle.sha_crypt.specs.Setting.{PlainSetting, are_rounds, asked, asked_by, asked_or, begins, past_rounds, field_fault, method_of}
use Rattle.sha_crypt.specs.Setting.{names_rounds, rounds_fault, rounds_field, rounds_named, rounds_written, salt_fault, salt_in}
use Rattle.laws_cost.specs.Digests.{rounds_of}
use Rattle.laws_cost.specs.Costs.{LengthsByLengths, RoundsAreBounded, size_of}
use Rattle.laws_cost.proofs.TextLengthFacts.{mixed_lengths}
use Rattle.laws_cost.proofs.DigestTextFacts.{digests_by_rounds}

-- ---- its rounds

same_ok : (x y : PlainSetting) → ◌≡◌ {A = Result PlainSetting SettingFault} (Ok x) (Ok y) → x ≡ y
same_ok x y e = first_of (cc, grind arith)

-- a setting without a fault
record Sound (fault : Option SettingFault) (made s : PlainSetting) : Type 0 where
  none : fault ≡ None
  same : made ≡ s

sound : (fault : Option SettingFault) (made s : PlainSetting) → asked_or fault made ≡ Ok s → Sound fault made s
sound None made s e = record { none = refl; same = same_ok made s e }
sound (Some fault) made s e = absurd cc

both_none : (one two : Option SettingFault) → option_or one two ≡ None → one ≡ None
both_none None two e = refl
both_none (Some fault) two e = e

few_written : (rounds many : Bool) → (if not rounds then Some BadRounds else if many then Some TooManyRounds else None) ≡ None → many ≡ false
few_written true true e = absurd cc
few_written true false e = refl
few_written false many e = absurd cc

few_named : (named : Bool) (written : ℕ) (fault : Option SettingFault) → (if named then fault else None) ≡ None → (fault ≡ None → written ≤ 1000000)
    → unwrap_or (if named then Some (max 1000 written) else None) 5000 ≤ 1000000
few_named true written fault e few = let small = few e in omega (arith, small)
few_named false written fault e few = omega arith

rounds_sound : (the_rest : List ℕ) → rounds_fault the_rest ≡ None → unwrap_or (rounds_named the_rest) 5000 ≤ 1000000
rounds_sound the_rest e =
    let field : List ℕ = rounds_field the_rest in
    few_named (names_rounds the_rest) (rounds_written field) (field_fault field) e
    (λ f. ltb-false 1000000 (rounds_written field) (few_written (are_rounds field) (nat_lt 1000000 (rounds_written field)) f))

-- ---- its digest

first_of_256 : (h : List ℕ) → slice_index (narrow.digest_bytes h 8) 0 < 256
unfolding narrow.digest_bytes
first_of_256 h = omega arith

first_of_512 : (h : List ℕ) → slice_index (wide.digest_bytes h 8) 0 < 256
unfolding wide.digest_bytes
first_of_512 h = omega arith

first_byte_256 : (text : List ℕ) → slice_index (narrow.sha256 text) 0 < 256
unfolding narrow.sha256
first_byte_256 text = first_of_256 _

first_byte_512 : (text : List ℕ) → slice_index (wide.sha512 text) 0 < 256
unfolding wide.sha512
first_byte_512 text = first_of_512 _

-- its digests have this size, and it has few rounds
record Suits (size : ℕ) (s : PlainSetting) : Type 0 where
  sized : (text : List ℕ) → length (digest s.method text) ≡ size
  first : (text : List ℕ) → slice_index (digest s.method text) 0 < 256
  some : 0 < size
  few : rounds_of s ≤ 1000000

suits_sound : (size : ℕ) (the_rest : List ℕ) (made s : PlainSetting) → ((text : List ℕ) → length (digest made.method text) ≡ size)
    → ((text : List ℕ) → slice_index (digest made.method text) 0 < 256) → 0 < size
    → made.rounds ≡ rounds_named the_rest → asked_or (option_or (rounds_fault the_rest) (salt_fault (salt_in (past_rounds the_rest)))) made ≡ Ok s → Suits size s
suits_sound size the_rest made s sized first some named e =
    let d = sound (option_or (rounds_fault the_rest) (salt_fault (salt_in (past_rounds the_rest)))) made s e in
    let few : unwrap_or (rounds_named the_rest) 5000 ≤ 1000000 =
    rounds_sound the_rest (both_none (rounds_fault the_rest) (salt_fault (salt_in (past_rounds the_rest))) d.none) in
    let same : rounds_of made ≡ unwrap_or (rounds_named the_rest) 5000 = ap (λ (r : Option ℕ). unwrap_or r 5000) named in
    subst (Suits size) d.same (record { sized = sized; first = first; some = some; few = omega (arith, few, same) })

-- by what the setting begins with
suits_by : (narrow wide : Bool) (setting : List ℕ) (s : PlainSetting)
    → asked_by (if narrow then method_of (codes "$5$") else if wide then method_of (codes "$6$") else None) setting ≡ Ok s
    → Suits (if narrow then 32 else 64) s
suits_by true wide setting s e = suits_sound 32 (drop 3 setting) _ s length-sha256 first_byte_256 (omega arith) refl e
suits_by false true setting s e = suits_sound 64 (drop 3 setting) _ s length-sha512 first_byte_512 (omega arith) refl e
suits_by false false setting s e = absurd cc

suits : (setting : List ℕ) (s : PlainSetting) → asked setting ≡ Ok s → Suits (size_of setting) s
suits setting s e = suits_by (begins (codes "$5$") setting) (begins (codes "$6$") setting) setting s e

-- ---- the laws

pub rounds_are_bounded : RoundsAreBounded
rounds_are_bounded setting key s e =
    let few : rounds_of s ≤ 1000000 = (suits setting s e).few in
    let count = digests_by_rounds s key in
    omega (arith, few, count)

pub lengths_by_lengths : LengthsByLengths
lengths_by_lengths setting key s e =
    let d = suits setting s e in
    (d.first _, mixed_lengths (digest s.method) (size_of setting) d.sized d.some key s.salt (rounds_of s))
