-- After a line is taken, the first line that differs is the same.
use Rattle.std.proofs.Common.{◌≡◌, ℕ, zero, suc, ◌+◌, ◌-◌, ◌≤◌, Bool, true, false, ◌&&◌, if◌then◌else◌, ltb, leb, ◌<◌, get_or, List, []}
use Rattle.std.proofs.Common.{◌∷◌, ◌++◌, map, length, Option, Some, None, refl, sym, ◌∙◌, ap, arith}
use Rattle.std.specs.Prelude.{slice_get, slice_set}
use Rattle.std.specs.Option.{option_map}
use Rattle.std.proofs.lemmas.Bool.Decides.{nat_tests}
use Rattle.std.proofs.lemmas.List.{map-set, set-set, length-set}
use Rattle.std.proofs.lemmas.Option.{slice_get-map}
use Rattle.service_load.specs.Stacks.{Stacks}
use Rattle.report_lines.specs.Line.{ToldLine, Result, Block, block_of, unread}
use Rattle.report_lines.specs.Says.{Says, tells, results, lasts}
use Rattle.session_audit.specs.declared.place.SlotLog as held
use Rattle.session_audit.specs.Fits.{SlotLog, place_at, with_place, visits_told, is_none, is_bad_number, after_result, with_after, after_at, after_block}
use Rattle.session_audit.specs.Differs.{Gathered, nothing_yet, gathered, may_follow, told_so_far, lines_before, visits_good, bad_line, after_or, differs_from}
use Rattle.session_audit.specs.Checked.{place_of, IsPlaced, IsUnplaced}

abbrev pub nothing_in : Gathered → Bool
nothing_in nothing_yet = true
nothing_in (gathered own told) = false

module _ (stacks : Stacks) where
  -- ---- lines

  pub last_ends : (places later : List SlotLog) (n m : ℕ) (lines : List (Option Says)) → is_none lines ≡ true
      → differs_from stacks places nothing_yet n (Some (lasts unread) ∷ lines) ≡ differs_from stacks later nothing_yet m lines
  last_ends places later n m [] is = refl
  last_ends places later n m (l ∷ lines) is = absurd (cc)

  pub last_named : (places : List SlotLog) (g : Gathered) (n : ℕ) (lines : List (Option Says)) → (is_none lines && nothing_in g) ≡ false
      → differs_from stacks places g n (Some (lasts unread) ∷ lines) ≡ Some (n + 1)
  last_named places nothing_yet n [] is = absurd (cc)
  last_named places nothing_yet n (l ∷ lines) is = refl
  last_named places (gathered own told) n lines is = refl

  by_follow : (b : Bool) (x y : Option ℕ) → b ≡ true → (if b then x else y) ≡ x
  by_follow true x y is = refl
  by_follow false x y is = absurd (cc)

  by_other : (b : Bool) (x y : Option ℕ) → b ≡ false → (if b then x else y) ≡ y
  by_other true x y is = absurd (cc)
  by_other false x y is = refl

  pub other_told : (places : List SlotLog) (g : Gathered) (n number : ℕ) (t : ToldLine) (lines : List (Option Says)) → may_follow g number ≡ false
      → differs_from stacks places g n (Some (tells number t) ∷ lines) ≡ Some (n + 1)
  other_told places g n number t lines other = by_other (may_follow g number) _ (Some (n + 1)) other

  pub told_goes : (places : List SlotLog) (g : Gathered) (n number : ℕ) (told : List ToldLine) (t : ToldLine) (lines : List (Option Says)) → may_follow g number ≡ true
      → told ≡ told_so_far g
      → differs_from stacks places g n (Some (tells number t) ∷ lines) ≡ differs_from stacks places (gathered number (told ++ t ∷ [])) (n + 1) lines
  told_goes places g n number told t lines follows are =
      by_follow (may_follow g number) _ (Some (n + 1)) follows
      ∙ ap (λ (ts : List ToldLine). differs_from stacks places (gathered number (ts ++ t ∷ [])) (n + 1) lines) (sym are)

  pub other_result : (places : List SlotLog) (g : Gathered) (n number : ℕ) (result : Result) (lines : List (Option Says)) → may_follow g number ≡ false
      → differs_from stacks places g n (Some (results number result) ∷ lines) ≡ Some (n + 1)
  other_result places g n number result lines other = by_other (may_follow g number) _ (Some (n + 1)) other

  abbrev by_block : List SlotLog → ℕ → List (Option Says) → Block → Option ℕ
  by_block places n lines b = after_or stacks (after_block stacks places b) (n + 1 - length b.told + bad_line stacks (place_at places b.number) b)
      (λ new_logs. differs_from stacks new_logs nothing_yet (n + 1) lines)

  result_goes : (places : List SlotLog) (g : Gathered) (n number : ℕ) (told : List ToldLine) (result : Result) (lines : List (Option Says))
      → may_follow g number ≡ true → told ≡ told_so_far g
      → differs_from stacks places g n (Some (results number result) ∷ lines) ≡ by_block places n lines (block_of number told result)
  result_goes places g n number told result lines follows are =
      by_follow (may_follow g number) _ (Some (n + 1)) follows
      ∙ ap (λ (ts : List ToldLine). by_block places n lines (block_of number ts result)) (sym are)

  pub result_fits : (places next : List SlotLog) (g : Gathered) (n number : ℕ) (told : List ToldLine) (result : Result) (lines : List (Option Says))
      → may_follow g number ≡ true → told ≡ told_so_far g
      → after_block stacks places (block_of number told result) ≡ Some next
      → differs_from stacks places g n (Some (results number result) ∷ lines) ≡ differs_from stacks next nothing_yet (n + 1) lines
  result_fits places next g n number told result lines follows are fits =
      let b : Block = block_of number told result in
      result_goes places g n number told result lines follows are
      ∙ ap (λ (x : Option (List SlotLog)). after_or stacks x (n + 1 - length b.told + bad_line stacks (place_at places b.number) b)
      (λ new_logs. differs_from stacks new_logs nothing_yet (n + 1) lines)) fits

  pub result_named : (places : List SlotLog) (g : Gathered) (n number line : ℕ) (told : List ToldLine) (result : Result) (lines : List (Option Says))
      → may_follow g number ≡ true → told ≡ told_so_far g
      → after_block stacks places (block_of number told result) ≡ None → line ≡ bad_line stacks (place_at places number) (block_of number told result)
      → differs_from stacks places g n (Some (results number result) ∷ lines) ≡ Some (n + 1 - length told + line)
  result_named places g n number line told result lines follows are fits is =
      let b : Block = block_of number told result in
      result_goes places g n number told result lines follows are
      ∙ ap (λ (x : Option (List SlotLog)). after_or stacks x (n + 1 - length b.told + bad_line stacks (place_at places b.number) b)
      (λ new_logs. differs_from stacks new_logs nothing_yet (n + 1) lines)) fits
      ∙ ap (λ (k : ℕ). Some (n + 1 - length told + k)) (sym is)

  -- ---- a block of the transaction of its number

  found_at : (old : List held.SlotLog) (i number : ℕ) (p : held.SlotLog) → number ≡ suc i → slice_get old i ≡ Some p
      → place_at (map place_of old) number ≡ Some (place_of p)
  found_at old i number p is at =
      ap (place_at (map place_of old)) is ∙ slice_get-map place_of old i ∙ ap (option_map place_of) at

  pub placed_line : (old : List held.SlotLog) (i number line : ℕ) (p : held.SlotLog) (told : List ToldLine) (result : Result) → number ≡ suc i
      → slice_get old i ≡ Some p
      → line ≡ lines_before (visits_good stacks (Some (place_of p)) (visits_told told) result) told
      → line ≡ bad_line stacks (place_at (map place_of old) number) (block_of number told result)
  placed_line old i number line p told result is at named =
      named ∙ ap (λ (x : Option SlotLog). bad_line stacks x (block_of number told result)) (sym (found_at old i number p is at))

  pub placed_none : (old : List held.SlotLog) (i number : ℕ) (p : held.SlotLog) (told : List ToldLine) (result : Result) → number ≡ suc i → slice_get old i ≡ Some p
      → after_result stacks (place_of p) (visits_told told) result ≡ None
      → after_block stacks (map place_of old) (block_of number told result) ≡ None
  placed_none old i number p told result is at none =
      ap (after_at stacks (map place_of old) (block_of number told result)) (found_at old i number p is at)
      ∙ ap (with_after stacks (map place_of old) number) none

  pub placed_fits : (old : List held.SlotLog) (i number : ℕ) (p between slot_log : held.SlotLog) (told : List ToldLine) (result : Result) → number ≡ suc i
      → slice_get old i ≡ Some p
      → after_result stacks (place_of p) (visits_told told) result ≡ Some (place_of slot_log)
      → after_block stacks (map place_of old) (block_of number told result) ≡ Some (map place_of (slice_set (slice_set old i between) i slot_log))
  placed_fits old i number p between slot_log told result is at fits =
      ap (after_at stacks (map place_of old) (block_of number told result)) (found_at old i number p is at)
      ∙ ap (with_after stacks (map place_of old) number) fits
      ∙ ap (λ (m : ℕ). Some (with_place (map place_of old) m (place_of slot_log))) is
      ∙ ap Some (sym (map-set place_of old i slot_log) ∙ ap (map place_of) (sym (set-set old i between slot_log)))

  pub unplaced : (places : List SlotLog) (number : ℕ) (told : List ToldLine) (result : Result) (b : Bool) → place_at places number ≡ None
      → (is_bad_number stacks result && is_none (visits_told told)) ≡ b
      → after_block stacks places (block_of number told result) ≡ (if b then Some places else None)
  unplaced places number told result b none is =
      ap (after_at stacks places (block_of number told result)) none ∙ ap (λ (c : Bool). if c then Some places else None) is

  pub unplaced_line : (places : List SlotLog) (number : ℕ) (told : List ToldLine) (result : Result) → place_at places number ≡ None
      → lines_before 0 told ≡ bad_line stacks (place_at places number) (block_of number told result)
  unplaced_line places number told result none = ap (λ (x : Option SlotLog). bad_line stacks x (block_of number told result)) (sym none)

-- ---- transactions and their numbers

pub get_some : {A : Type 0} → (xs : List A) (i : ℕ) (p d : A) → i < length xs → p ≡ get_or xs i d → slice_get xs i ≡ Some p
get_some [] i p d lt is = absurd (omega arith)
get_some (x ∷ xs) zero p d lt is = ap Some (sym is)
get_some (x ∷ xs) (suc i) p d lt is = get_some xs i p d (omega arith) is

get_past : {A : Type 0} → (xs : List A) (i : ℕ) → length xs ≤ i → slice_get xs i ≡ None
get_past [] i le = refl
get_past (x ∷ xs) zero le = absurd (omega arith)
get_past (x ∷ xs) (suc i) le = get_past xs i (omega arith)

pub index_of : (number n : ℕ) → (ltb 0 number && leb number n) ≡ true → number ≡ suc (number - 1)
index_of zero n is = absurd (cc)
index_of (suc i) n is = omega arith

pub no_place : (old : List held.SlotLog) (number : ℕ) → (ltb 0 number && leb number (length old)) ≡ false → place_at (map place_of old) number ≡ None
no_place old zero is = refl
no_place old (suc i) is =
    let past : length old ≤ i = grind (arith, nat_tests) in
    slice_get-map place_of old i ∙ ap (option_map place_of) (get_past old i past)

pub a_place : (old : List held.SlotLog) (number : ℕ) → (ltb 0 number && leb number (length old)) ≡ true → number - 1 < length old
a_place old zero is = absurd (cc)
a_place old (suc i) is = grind (arith, nat_tests)

pub fits_at : (stacks : Stacks) (old : List held.SlotLog) (number : ℕ) (p between slot_log : held.SlotLog) (told : List ToldLine) (result : Result)
    → number ≡ suc (number - 1)
    → slice_get old (number - 1) ≡ Some p → after_result stacks (place_of p) (visits_told told) result ≡ Some (place_of slot_log)
    → IsPlaced stacks old (block_of number told result) None (slice_set (slice_set old (number - 1) between) (number - 1) slot_log)
fits_at stacks old number p between slot_log told result is at fits = (
  placed_fits stacks old (number - 1) number p between slot_log told result is at fits,
  length-set (slice_set old (number - 1) between) (number - 1) slot_log ∙ length-set old (number - 1) between,
)

-- a block of a number that no transaction has
pub nowhere_is : (stacks : Stacks) (old : List held.SlotLog) (number : ℕ) (told : List ToldLine) (result : Result) (line : Option ℕ)
    → place_at (map place_of old) number ≡ None
    → IsUnplaced line told result → IsPlaced stacks old (block_of number told result) line old
nowhere_is stacks old number told result None none is = (unplaced stacks (map place_of old) number told result true none (is stacks), refl)
nowhere_is stacks old number told result (Some line) none is =
    (unplaced stacks (map place_of old) number told result false none (is.0 stacks), is.1 ∙ unplaced_line stacks (map place_of old) number told result none)
