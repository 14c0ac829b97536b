-- A setting that is a prefix, rounds and characters has no fault.
use Rattle.std.proofs.Common.{◌≡◌, ℕ, zero, suc, ◌/◌, ◌%◌, ◌<◌, ◌≤◌, Bool, true, false, ◌||◌, not, cond, List, [], ◌∷◌, ◌++◌, length, take, get_or, Option, Some, None, IfSome, Result, Ok, Err, is_ok, codes, decimal, refl, sym, ap, ◌∙◌, arith, eqb, append_assoc, length-append}
use Rattle.std.proofs.lemmas.Bool.{and_parts, eqb-true, lt-ltb, le-ltb}
use Rattle.std.proofs.lemmas.Fmt.{decimal_nonempty}
use Rattle.std.proofs.lemmas.List.Folds.{list_all_at}
use Rattle.std.specs.List.{list_all, list_any, before_first, after_first}
use Rattle.sha_crypt.specs.declared.setting.Method.{Method}
use Rattle.sha_crypt.specs.declared.setting.Method.TheVariants.{Sha256, Sha512}
use Rattle.sha_crypt.specs.declared.setting.SettingFault.{SettingFault}
use Rattle.sha_crypt.specs.Characters.{alphabet, characters}
use Rattle.sha_crypt.specs.Hash.{crypted, hash_or_fault}
use Rattle.sha_crypt.specs.Setting.{PlainSetting, asked, asked_of, begins, field_fault, is_dollar, is_forbidden, prefix, rounds_text, rounds_written, salt_in}
use Rattle.sha_crypt.proofs.Again.{after_dollar, before, before_dollar, before_is, after_prefix, digits_have_none}
use Rattle.sha_crypt.proofs.Decimals.{Writes, writes}
use Rattle.sha_crypt.proofs.Field.{characters_fit, has_forbidden}

-- ---- the salt

left_false : (a b : Bool) → (a || b) ≡ false → (a ≡ false) × (b ≡ false)
left_false true b e = absurd cc
left_false false b e = (refl, e)

take_fits : (n : ℕ) (t : List ℕ) → has_forbidden t ≡ false → has_forbidden (take n t) ≡ false
unfolding has_forbidden
take_fits zero t h = refl
take_fits (suc n) [] h = refl
take_fits (suc n) (b ∷ bs) h =
    let parts = left_false (is_forbidden b) (has_forbidden bs) h in
    rw parts.0 (take_fits n bs parts.1)

before_step : (x : Bool) (b : ℕ) (bs : List ℕ) → has_forbidden (b ∷ bs) ≡ false → (has_forbidden bs ≡ false → has_forbidden (before bs) ≡ false)
    → has_forbidden (cond x [] (b ∷ before bs)) ≡ false
unfolding has_forbidden
before_step true b bs h rest = refl
before_step false b bs h rest =
    let parts = left_false (is_forbidden b) (has_forbidden bs) h in
    rw parts.0 (rest parts.1)

before_fits : (t : List ℕ) → has_forbidden t ≡ false → has_forbidden (before t) ≡ false
unfolding has_forbidden before
before_fits [] h = refl
before_fits (b ∷ bs) h = before_step (is_dollar b) b bs h (before_fits bs)

salt_fits : (n number : ℕ) → list_any is_forbidden (salt_in (characters n number)) ≡ false
unfolding has_forbidden
salt_fits n number = rw (before_is (characters n number)) (take_fits 16 (before (characters n number)) (before_fits (characters n number) (characters_fit n number)))

-- ---- a salt doesn't name rounds

no_equals : List ℕ → Bool
no_equals text = list_all (λ b. not (eqb b 61)) text

none_if : (k : ℕ) → k < 64 → (x : Bool) → not (eqb (get_or alphabet k 0) 61) ≡ x → not (eqb (get_or alphabet k 0) 61) ≡ true
none_if k lt true e = e
none_if k lt false e =
    let some : ◌≡◌ {A = Bool} true false = list_all_at (λ b. not (eqb b 61)) alphabet k 0 lt e in
    absurd cc

characters_lack : (n number : ℕ) → no_equals (characters n number) ≡ true
unfolding no_equals
characters_lack zero number = refl
characters_lack (suc n) number =
    rw (none_if (number % 64) (omega arith) _ refl) (characters_lack n (number / 64))

same_lacks : (c b : ℕ) (cs : List ℕ) → eqb c b ≡ true → not (eqb b 61) ≡ true → no_equals cs ≡ true → no_equals (c ∷ cs) ≡ true
unfolding no_equals
same_lacks c b cs e h rest = let same : c ≡ b = eqb-true c b e in rw (same, h) rest

begun_lacks : (w t : List ℕ) → begins w t ≡ true → no_equals t ≡ true → no_equals w ≡ true
unfolding no_equals
begun_lacks [] t e h = refl
begun_lacks (c ∷ cs) [] e h = absurd cc
begun_lacks (c ∷ cs) (b ∷ bs) e h =
    let parts = and_parts (eqb c b) (begins cs bs) e in
    let fits = and_parts (not (eqb b 61)) (no_equals bs) h in
    same_lacks c b cs parts.0 fits.0 (begun_lacks cs bs parts.1 fits.1)

none_named : (t : List ℕ) (x : Bool) → begins (codes "rounds=") t ≡ x → no_equals t ≡ true → begins (codes "rounds=") t ≡ false
unfolding no_equals
none_named t false e h = e
none_named t true e h = let both : ◌≡◌ {A = Bool} false true = begun_lacks (codes "rounds=") t e h in absurd cc

-- ---- the whole

module _ (m : Method) (c : List ℕ) (allowed : list_any is_forbidden (salt_in c) ≡ false) where
  none_fine : begins (codes "rounds=") c ≡ false → is_ok (asked_of m c) ≡ true
  none_fine none = rw (none, allowed) refl

  module _ (n : ℕ) (high : n ≤ 1000000) where
    field : List ℕ
    field = decimal n ++ 36 ∷ c

    written : Writes n (decimal n)
    written = writes n (omega arith)

    word : before_first is_dollar field ≡ decimal n
    unfolding field
    word = before_is field ∙ before_dollar c (decimal n) (digits_have_none (decimal n) written.all)

    after_id : after_first is_dollar field ≡ c
    unfolding field
    after_id = after_dollar c (decimal n) (digits_have_none (decimal n) written.all)

    shorter : length (decimal n) < length field
    unfolding field
    shorter = omega (arith, length-append (decimal n) (36 ∷ c))

    no_fault : field_fault field ≡ None
    no_fault =
        rw (word, lt-ltb (length (decimal n)) (length field) shorter, lt-ltb 0 (length (decimal n)) (decimal_nonempty n (omega arith)), written.all, written.value, le-ltb 1000000 n high)
        refl

    some_fine : is_ok (asked_of m (codes "rounds=" ++ field)) ≡ true
    some_fine = rw (no_fault, after_id, allowed) refl

  fine : (rounds : Option ℕ) → IfSome rounds (λ r. r ≤ 1000000) → begins (codes "rounds=") c ≡ false → is_ok (asked_of m (rounds_text rounds ++ c)) ≡ true
  unfolding field
  fine None h none = none_fine none
  fine (Some n) h none = ap (λ (x : List ℕ). is_ok (asked_of m (codes "rounds=" ++ x))) (append_assoc (decimal n) (36 ∷ []) c) ∙ some_fine n h

made_fine : (r : Result PlainSetting SettingFault) (key : List ℕ) → is_ok r ≡ true → is_ok (hash_or_fault r key) ≡ true
made_fine (Ok a) key e = refl
made_fine (Err fault) key e = e

pub plain_fine : (m : Method) (rounds : Option ℕ) (n number : ℕ) (key : List ℕ) → IfSome rounds (λ r. r ≤ 1000000)
    → is_ok (crypted (prefix m ++ rounds_text rounds ++ characters n number) key) ≡ true
plain_fine m rounds n number key h =
    let c = characters n number in
    let whole : asked (prefix m ++ rounds_text rounds ++ c) ≡ asked_of m (rounds_text rounds ++ c) = ap asked (append_assoc (prefix m) (rounds_text rounds) c) ∙ after_prefix m (rounds_text rounds ++ c) in
    made_fine (asked (prefix m ++ rounds_text rounds ++ c)) key
    (ap (λ (r : Result PlainSetting SettingFault). is_ok r) whole ∙ fine m c (salt_fits n number) rounds h (none_named c _ refl (characters_lack n number)))
