-- The definition with its texts beside the one without them.
use Rattle.std.proofs.Common.{◌≡◌, ℕ, zero, suc, ◌+◌, List, [], ◌∷◌, ◌++◌, length, refl, sym, ◌∙◌, ap, arith, Ok}
use Rattle.std.specs.Prelude.{slice_index}
use Rattle.std.specs.List.{AllByRecursion, repeat}
use Rattle.std.proofs.lemmas.List.{length_push}
use Rattle.sha_crypt.specs.Digest.{digest}
use Rattle.sha_crypt.specs.Characters.{groups, groups_text, last_group}
use Rattle.sha_crypt.specs.Hash.{hash_or_fault}
use Rattle.sha_crypt.specs.Mixing.{after_rounds, by_digits, digest_a, digest_b, mixed, repeat_to, round_text, text_p, text_q}
use Rattle.sha_crypt.specs.Setting.{setting_text}
use Rattle.laws_cost.specs.Digests.{Noted, digesting, noted, noted_mixed, noted_rounds, rounds_of}
use Rattle.laws_cost.specs.Costs.{DigestsByRounds, HashIsOfDigests, NoDigestIsLeftOut}

-- ---- the value

module _ (H : List ℕ → List ℕ) where
  pub rounds_are : (p q : List ℕ) (a : Noted) (i : ℕ) → (noted_rounds H p q a i).value ≡ after_rounds H p q a.value i
  unfolding noted_rounds after_rounds
  rounds_are p q a zero = refl
  rounds_are p q a (suc i) = ap (λ (c : List ℕ). H (round_text i p q c)) (rounds_are p q a i)

  mixed_is : (key salt : List ℕ) (rounds : ℕ) → (noted_mixed H key salt rounds).value ≡ mixed H key salt rounds
  unfolding noted_mixed mixed
  mixed_is key salt rounds = rounds_are _ _ _ rounds

  -- ---- how many texts

  rounds_count : (p q : List ℕ) (a : Noted) (i : ℕ) → length (noted_rounds H p q a i).texts ≡ length a.texts + i
  unfolding noted_rounds
  rounds_count p q a zero = omega arith
  rounds_count p q a (suc i) =
      let c = noted_rounds H p q a i in
      let before = rounds_count p q a i in
      let one = length_push c.texts (round_text i p q c.value) in
      omega (arith, before, one)

  mixed_count : (key salt : List ℕ) (rounds : ℕ) → length (noted_mixed H key salt rounds).texts ≡ 4 + rounds
  unfolding noted_mixed
  mixed_count key salt rounds = rounds_count _ _ _ rounds

-- ---- functions that agree on the texts

module _ (P : List ℕ → Type 0) where
  all_first : (xs ys : List (List ℕ)) → AllByRecursion P (xs ++ ys) → AllByRecursion P xs
  all_first [] ys all = tt
  all_first (x ∷ xs) ys all = (all.0, all_first xs ys all.1)

  all_last : (xs : List (List ℕ)) (y : List ℕ) → AllByRecursion P (xs ++ y ∷ []) → P y
  all_last [] y all = all.0
  all_last (x ∷ xs) y all = all_last xs y all.1

module _ (H other : List ℕ → List ℕ) where
  abbrev Agrees : List ℕ → Type 0
  Agrees text = other text ≡ H text

  before_rounds : (p q : List ℕ) (a : Noted) (i : ℕ) → AllByRecursion Agrees (noted_rounds H p q a i).texts → AllByRecursion Agrees a.texts
  unfolding noted_rounds
  before_rounds p q a zero all = all
  before_rounds p q a (suc i) all =
      let c = noted_rounds H p q a i in
      before_rounds p q a i (all_first Agrees c.texts (round_text i p q c.value ∷ []) all)

  rounds_agree : (p q : List ℕ) (a : Noted) (i : ℕ) → AllByRecursion Agrees (noted_rounds H p q a i).texts
      → after_rounds other p q a.value i ≡ after_rounds H p q a.value i
  unfolding noted_rounds after_rounds
  rounds_agree p q a zero all = refl
  rounds_agree p q a (suc i) all =
      let c = noted_rounds H p q a i in
      let text : List ℕ = round_text i p q c.value in
      ap (λ (x : List ℕ). other (round_text i p q x)) (rounds_agree p q a i (all_first Agrees c.texts (text ∷ []) all) ∙ sym (rounds_are H p q a i))
      ∙ all_last Agrees c.texts text all
      ∙ ap (λ (x : List ℕ). H (round_text i p q x)) (rounds_are H p q a i)

  mixed_agree : (key salt : List ℕ) (rounds : ℕ) → AllByRecursion Agrees (noted_mixed H key salt rounds).texts
      → mixed other key salt rounds ≡ mixed H key salt rounds
  unfolding noted_mixed mixed
  mixed_agree key salt rounds all =
      let b = digesting H [] (key ++ salt ++ key) in
      let a = digesting H b.texts (key ++ salt ++ repeat_to b.value (length key) ++ by_digits b.value key (length key)) in
      let p = digesting H a.texts (repeat (length key) key) in
      let q = digesting H p.texts (repeat (16 + slice_index a.value 0) salt) in
      let start : Noted = noted a.value q.texts in
      let here = before_rounds (text_p H key) (text_q H salt (slice_index a.value 0)) start rounds all in
      let same_b : digest_b other key salt ≡ digest_b H key salt = here.0 in
      let same_a : digest_a other key salt ≡ digest_a H key salt =
      ap (λ (x : List ℕ). other (key ++ salt ++ repeat_to x (length key) ++ by_digits x key (length key))) same_b ∙ here.1.0 in
      let same_p : text_p other key ≡ text_p H key = ap (λ (x : List ℕ). repeat_to x (length key)) here.1.1.0 in
      let same_q : text_q other salt (slice_index (digest_a other key salt) 0) ≡ text_q H salt (slice_index (digest_a H key salt) 0) =
      ap (λ (x : List ℕ). text_q other salt (slice_index x 0)) same_a ∙ ap (λ (x : List ℕ). repeat_to x (length salt)) here.1.1.1.0 in
      ap (λ (x : List ℕ). after_rounds other x (text_q other salt (slice_index (digest_a other key salt) 0)) (digest_a other key salt) rounds) same_p
      ∙ ap (λ (x : List ℕ). after_rounds other (text_p H key) x (digest_a other key salt) rounds) same_q
      ∙ ap (λ (x : List ℕ). after_rounds other (text_p H key) (text_q H salt (slice_index (digest_a H key salt) 0)) x rounds) same_a
      ∙ rounds_agree (text_p H key) (text_q H salt (slice_index a.value 0)) start rounds all

-- ---- the laws

pub hash_is_of_digests : HashIsOfDigests
hash_is_of_digests setting key s is =
    ap (λ r. hash_or_fault r key) is
    ∙ ap (λ (d : List ℕ). Ok (setting_text s ++ groups_text (groups s.method) (last_group s.method) d))
    (sym (mixed_is (digest s.method) key s.salt (rounds_of s)))

pub no_digest_is_left_out : NoDigestIsLeftOut
no_digest_is_left_out H other key salt rounds all = mixed_agree H other key salt rounds all

pub digests_by_rounds : DigestsByRounds
digests_by_rounds s key = mixed_count (digest s.method) key s.salt (rounds_of s)
