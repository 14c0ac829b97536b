-- A new setting has no fault.
use Rattle.std.proofs.Common.{◌≡◌, ℕ, ◌≤◌, max, min, Bool, true, false, ◌++◌, List, Option, Some, None, IfSome, Result, Err, is_ok, codes, if◌then◌else◌, refl, sym, ap, ◌∙◌, arith}
use Rattle.pam_room.specs.Call.{value_among}
use Rattle.sha_crypt.specs.Characters.{characters}
use Rattle.sha_crypt.specs.declared.setting.SettingFault.{SettingFault}
use Rattle.sha_crypt.specs.Hash.{crypted}
use Rattle.sha_crypt.specs.Setting.{rounds_text}
use Rattle.module_acts.specs.Arguments.{has_argument, short_number}
use Rattle.mod_unix.specs.NewHash.{new_setting, rounds_in, rounds_of}

-- no rounds are named, or few enough
record Named (text : List ℕ) : Type 0 where
  rounds : Option ℕ
  few : IfSome rounds (λ r. r ≤ 1000000)
  is : text ≡ rounds_text rounds

by_number : (found : Option ℕ) → Named (rounds_of found)
by_number None = record { rounds = None; few = tt; is = refl }
by_number (Some n) = record { rounds = Some (max 1000 (min n 1000000)); few = omega arith; is = refl }

by_word : (found : Option (List ℕ)) → Named (rounds_in found)
by_word None = record { rounds = None; few = tt; is = refl }
by_word (Some word) = by_number (short_number 9 word)

module _ (sha256 : (rounds : Option ℕ) (n number : ℕ) (key : List ℕ) → IfSome rounds (λ r. r ≤ 1000000) → is_ok (crypted (codes "$5$" ++ rounds_text rounds ++ characters n number) key) ≡ true)
    (sha512 : (rounds : Option ℕ) (n number : ℕ) (key : List ℕ) → IfSome rounds (λ r. r ≤ 1000000) → is_ok (crypted (codes "$6$" ++ rounds_text rounds ++ characters n number) key) ≡ true) where
  by_method : (b : Bool) (text : List ℕ) (named : Named text) (word : ℕ) (key : List ℕ) → is_ok (crypted ((if b then codes "$5$" else codes "$6$") ++ text ++ characters 8 word) key) ≡ true
  by_method true text named word key = rw named.is (sha256 named.rounds 8 word key named.few)
  by_method false text named word key = rw named.is (sha512 named.rounds 8 word key named.few)

  pub made : (args : List (List ℕ)) (word : ℕ) (key : List ℕ) → is_ok (crypted (new_setting args word) key) ≡ true
  unfolding new_setting
  made args word key = by_method (has_argument (codes "sha256") args) (rounds_in (value_among (codes "rounds=") args)) (by_word (value_among (codes "rounds=") args)) word key

  pub no_fault : (args : List (List ℕ)) (word : ℕ) (key : List ℕ) (fault : SettingFault) → crypted (new_setting args word) key ≡ Err fault → ⊥
  no_fault args word key fault e = let both : ◌≡◌ {A = Bool} false true = sym (ap (λ (r : Result (List ℕ) SettingFault). is_ok r) e) ∙ made args word key in cc
