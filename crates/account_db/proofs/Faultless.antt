-- Lines without a fault, and their entries.
use Rattle.std.proofs.Common.{◌≡◌, ℕ, ◌+◌, ◌≤◌, Bool, true, false, cond, nat_lt, List, [], ◌∷◌, length, Option, Some, None, Ok, position, refl, ap, arith}
use Rattle.std.specs.List.{cons_option, filter_map, position_or_len}
use Rattle.std.proofs.lemmas.Bool.{ltb-false}
use Rattle.std.proofs.lemmas.Bool.Decides.{nat_tests}
use Rattle.pam_base.specs.Lines.{last_line}
use Rattle.account_db.specs.Entries.{entry_in, is_faulty, unless_faulty}
use Rattle.account_db.proofs.AbsentByteFacts.{lines_from}

module _ {E : Type 0} (form : List ℕ → Option E) where
  -- no line is at fault
  abbrev pub Fine : List (List ℕ) → Type 0
  Fine [] = Unit {0}
  Fine (l ∷ ls) = (is_faulty form l ≡ false) × Fine ls

  abbrev pub entries : List (List ℕ) → List E
  entries lines = filter_map (entry_in form) lines

  abbrev place : List (List ℕ) → ℕ
  place lines = position_or_len (is_faulty form) lines

  fine_step : (x : Bool) (l : List ℕ) (ls : List (List ℕ)) → is_faulty form l ≡ x → length (l ∷ ls) ≤ place (l ∷ ls) → (length ls ≤ place ls → Fine ls) → Fine (l ∷ ls)
  fine_step true l ls e h rest = let here : place (l ∷ ls) ≡ 0 = rw e refl in absurd (omega arith)
  fine_step false l ls e h rest = let next : 1 + place ls ≡ place (l ∷ ls) = rw e refl in (e, rest (omega arith))

  fine_by : (ls : List (List ℕ)) → length ls ≤ place ls → Fine ls
  fine_by [] h = tt
  fine_by (l ∷ ls) h = fine_step (is_faulty form l) l ls refl h (fine_by ls)

  fine_place : (ls : List (List ℕ)) → Fine ls → place ls ≡ length ls
  fine_place [] h = refl
  fine_place (l ∷ ls) h =
      let next : 1 + place ls ≡ place (l ∷ ls) = rw h.0 refl in
      let rest = fine_place ls h.1 in
      omega arith

  not_there : (b : Bool) (n : ℕ) → ◌≡◌ {A = Option ℕ} (cond b (Some n) None) None → b ≡ false
  not_there true n e = absurd cc
  not_there false n e = refl

  none_by : (o : Option ℕ) (ls : List (List ℕ)) (es : List E) → position (is_faulty form) ls ≡ o → unless_faulty form o ls ≡ Ok es → Fine ls × (entries ls ≡ es)
  none_by None ls es e h =
      let far : length ls ≤ place ls = ltb-false (place ls) (length ls) (not_there (nat_lt (place ls) (length ls)) (place ls) e) in
      (fine_by ls far, cc)
  none_by (Some n) ls es e h = absurd cc

  -- if the lines are read, none is at fault
  pub read_back : (ls : List (List ℕ)) (es : List E) → unless_faulty form (position (is_faulty form) ls) ls ≡ Ok es → Fine ls × (entries ls ≡ es)
  read_back ls es h = none_by (position (is_faulty form) ls) ls es refl h

  pub read_on : (ls : List (List ℕ)) → Fine ls → unless_faulty form (position (is_faulty form) ls) ls ≡ Ok (entries ls)
  read_on ls h =
      let far = fine_place ls h in
      let none : position (is_faulty form) ls ≡ None = grind (arith, nat_tests) in
      rw none refl

  last_fine : (l : List ℕ) → Fine (last_line l) → Fine (l ∷ [])
  last_fine [] h = (refl, tt)
  last_fine (b ∷ bs) h = h

  pub from_fine : (ls : List (List ℕ)) → Fine (lines_from ls) → Fine ls
  from_fine [] h = tt
  from_fine (l ∷ []) h = last_fine l h
  from_fine (l ∷ m ∷ ms) h = (h.0, from_fine (m ∷ ms) h.1)

  fine_last : (l : List ℕ) → Fine (l ∷ []) → Fine (last_line l)
  fine_last [] h = tt
  fine_last (b ∷ bs) h = h

  pub fine_from : (ls : List (List ℕ)) → Fine ls → Fine (lines_from ls)
  fine_from [] h = tt
  fine_from (l ∷ []) h = fine_last l h
  fine_from (l ∷ m ∷ ms) h = (h.0, fine_from (m ∷ ms) h.1)

  entries_last : (l : List ℕ) → entries (last_line l) ≡ entries (l ∷ [])
  entries_last [] = refl
  entries_last (b ∷ bs) = refl

  pub entries_from : (ls : List (List ℕ)) → entries (lines_from ls) ≡ entries ls
  entries_from [] = refl
  entries_from (l ∷ []) = entries_last l
  entries_from (l ∷ m ∷ ms) = ap (λ (es : List E). cons_option (entry_in form l) es) (entries_from (m ∷ ms))
