-- Conditions are taken three words at a time.
use Rattle.std.proofs.Common.{◌≡◌, ◌≤◌, ℕ, ◌-◌, List, [], ◌∷◌, length, take, drop, get_or, refl, arith}
use Rattle.std.proofs.lemmas.List.{take_all}
use Rattle.pam_base.specs.declared.code.Code.{Code}
use Rattle.pam_room.specs.State.{Scene}
use Rattle.module_acts.specs.Accounts.{Known}
use Rattle.module_acts.specs.Act.{Act, Acts, answers}
use Rattle.mod_lists.specs.declared.truth.Truth.{Truth}
use Rattle.mod_lists.specs.declared.truth.Truth.TheVariants.{Holds}
use Rattle.mod_lists.specs.Condition.{condition_of}
use Rattle.mod_lists.specs.SucceedIf.{rest_if_holds, meets_all, tries_words}

pub first_three : (whole : List (List ℕ)) (field word value : List ℕ) → 3 ≤ length whole → field ≡ get_or whole 0 field → word ≡ get_or whole 1 word → value ≡ get_or whole 2 value
    → whole ≡ field ∷ word ∷ value ∷ take (length whole - 3) (drop 3 whole)
first_three [] field word value some e f g = absurd (omega (arith, some))
first_three (x ∷ []) field word value some e f g = absurd (omega (arith, some))
first_three (x ∷ y ∷ []) field word value some e f g = absurd (omega (arith, some))
first_three (x ∷ y ∷ z ∷ zs) field word value some e f g = let all : take (length (x ∷ y ∷ z ∷ zs) - 3) zs ≡ zs = take_all _ zs (omega arith) in rw (← e, ← f, ← g, all) refl

module _ (field word value : List ℕ) (after rest : List (List ℕ)) (user : List ℕ) (known now : Known) (s mid : Scene) (is : rest ≡ field ∷ word ∷ value ∷ after) (truth : Truth)
    (step : (act : Truth → Act) (code : Code) (end : Scene) → Acts (act truth) now mid code end → Acts (tries_words (condition_of field word value) user act) known s code end) where
  pub goes_on : (code : Code) (end : Scene) → truth ≡ Holds → Acts (meets_all after user) now mid code end → Acts (meets_all rest user) known s code end
  goes_on code end e a = rw is (step (rest_if_holds (meets_all after user)) code end (rw e a))

  pub stops : (answer : Code) → ((act : Act) → rest_if_holds act truth ≡ answers answer) → Acts (answers answer) now mid answer mid → Acts (meets_all rest user) known s answer mid
  stops answer e a = rw is (step (rest_if_holds (meets_all after user)) answer mid (rw (e (meets_all after user)) a))
