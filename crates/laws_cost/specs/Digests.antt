-- The texts that are digested for a hash, in order (Drepper, "Unix crypt using SHA-256 and
-- SHA-512", steps 1 to 21): the definition of `Mixing`, in which each digest notes its text.
use Rattle.std.specs.Prelude.{ℕ, zero, suc, ◌+◌, List, [], ◌∷◌, ◌++◌, length, slice_index, unwrap_or}
use Rattle.std.specs.List.{repeat}
use Rattle.sha_crypt.specs.Digest.{digest}
use Rattle.sha_crypt.specs.Mixing.{by_digits, repeat_to, round_text}
use Rattle.sha_crypt.specs.Setting.{PlainSetting}

-- a digest, and the texts that have been digested, it included
pub record Noted : Type 0 where
  pub value : List ℕ
  pub texts : List (List ℕ)

abbrev pub noted : List ℕ → List (List ℕ) → Noted
noted value texts = record { value = value; texts = texts }

module _ (H : List ℕ → List ℕ) where
  -- the digest of a text, after those of others
  abbrev pub digesting : List (List ℕ) → List ℕ → Noted
  digesting before text = noted (H text) (before ++ text ∷ [])

  -- the digest after some rounds, from A on
  unfoldable pub noted_rounds : List ℕ → List ℕ → Noted → ℕ → Noted
  noted_rounds p q a zero = a
  noted_rounds p q a (suc i) =
      let c = noted_rounds p q a i in
      digesting c.texts (round_text i p q c.value)

  -- the digest of a key with a salt after some rounds: B, A, those of P and Q, and the rounds
  unfoldable pub noted_mixed : List ℕ → List ℕ → ℕ → Noted
  noted_mixed key salt rounds =
      let b = digesting [] (key ++ salt ++ key) in
      let a = digesting b.texts (key ++ salt ++ repeat_to b.value (length key)
      ++ by_digits b.value key (length key)) in
      let p = digesting a.texts (repeat (length key) key) in
      let q = digesting p.texts (repeat (16 + slice_index a.value 0) salt) in
      noted_rounds (repeat_to p.value (length key)) (repeat_to q.value (length salt))
      (noted a.value q.texts) rounds

-- the rounds that a setting asks for, 5,000 if it doesn't name any
abbrev pub rounds_of : PlainSetting → ℕ
rounds_of s = unwrap_or s.rounds 5000

-- the digest of a key as a setting asks for it
abbrev pub noted_digest : PlainSetting → List ℕ → Noted
noted_digest s key = noted_mixed (digest s.method) key s.salt (rounds_of s)
