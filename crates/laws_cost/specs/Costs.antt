-- How many texts a hash digests, and how long they are (the statements are this project's own).
use Rattle.std.specs.Prelude.{◌≡◌, ◌≤◌, ◌<◌, ℕ, zero, suc, ◌+◌, ◌*◌, ◌%◌, ◌==◌, if◌then◌else◌, List, [], ◌∷◌, ◌++◌, length, map, reverse, slice_index, Ok, codes}
use Rattle.std.specs.List.{AllByRecursion, sum_by}
use Rattle.std.specs.Int.Digits.{digits_of}
use Rattle.sha_crypt.specs.Characters.{groups, groups_text, last_group}
use Rattle.sha_crypt.specs.Digest.{digest}
use Rattle.sha_crypt.specs.Hash.{crypted}
use Rattle.sha_crypt.specs.Mixing.{digest_a, mixed}
use Rattle.sha_crypt.specs.Setting.{PlainSetting, asked, begins, setting_text}
use Rattle.laws_cost.specs.Digests.{noted_digest, noted_mixed, rounds_of}

-- the hash of a key under a setting without a fault, as `crypt` returns it
abbrev pub HashIsOfDigests : Type 0
HashIsOfDigests = (setting key : List ℕ) (s : PlainSetting) → asked setting ≡ Ok s →
    crypted setting key ≡ Ok (setting_text s
    ++ groups_text (groups s.method) (last_group s.method) (noted_digest s key).value)

-- two functions that agree on these texts, whatever they are for others, have the same hash
abbrev pub NoDigestIsLeftOut : Type 0
NoDigestIsLeftOut = (H other : List ℕ → List ℕ) (key salt : List ℕ) (rounds : ℕ) →
    AllByRecursion (λ text. other text ≡ H text) (noted_mixed H key salt rounds).texts →
    mixed other key salt rounds ≡ mixed H key salt rounds

abbrev pub DigestsByRounds : Type 0
DigestsByRounds = (s : PlainSetting) (key : List ℕ) →
    length (noted_digest s key).texts ≡ 4 + rounds_of s

abbrev pub RoundsAreBounded : Type 0
RoundsAreBounded = (setting key : List ℕ) (s : PlainSetting) → asked setting ≡ Ok s →
    length (noted_digest s key).texts ≤ 1000004

-- ---- how long the texts are, by the size of a digest and the lengths of the key and the salt

-- for each binary digit of the key's length, a digest or the key
abbrev pub digits_length : ℕ → ℕ → ℕ
digits_length size key =
    sum_by (λ digit. if digit == 1 then size else key) (reverse (digits_of 2 key))

-- a round's text: the digest before it and the key, in most rounds the salt, and in most the key
abbrev pub round_length : ℕ → ℕ → ℕ → ℕ → ℕ
round_length size key salt i =
    size + key + (if i % 3 == 0 then 0 else salt) + (if i % 7 == 0 then 0 else key)

abbrev pub round_lengths : ℕ → ℕ → ℕ → ℕ → List ℕ
round_lengths size key salt zero = []
round_lengths size key salt (suc i) =
    round_lengths size key salt i ++ round_length size key salt i ∷ []

-- those of all texts; `first` is the first byte of the second digest
abbrev pub text_lengths : ℕ → ℕ → ℕ → ℕ → ℕ → List ℕ
text_lengths size key salt first rounds =
    (key + salt + key) ∷ (key + salt + key + digits_length size key) ∷ (key * key)
    ∷ ((16 + first) * salt) ∷ round_lengths size key salt rounds

-- the bytes of a digest: of SHA-256, if the setting begins with `$5$`, or of SHA-512
abbrev pub size_of : List ℕ → ℕ
size_of setting = if begins (codes "$5$") setting then 32 else 64

abbrev pub LengthsByLengths : Type 0
LengthsByLengths = (setting key : List ℕ) (s : PlainSetting) → asked setting ≡ Ok s →
    let first = slice_index (digest_a (digest s.method) key s.salt) 0 in
    (first < 256) × (map length (noted_digest s key).texts
    ≡ text_lengths (size_of setting) (length key) (length s.salt) first (rounds_of s))
