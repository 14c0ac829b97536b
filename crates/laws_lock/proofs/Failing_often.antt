-- Failures that were recorded, and of which enough count, lock a user.
use Rattle.std.proofs.Common.{◌≡◌, ℕ, ◌-◌, ◌<◌, ◌≤◌, max, Bool, true, false, true≢false, cond, ltb, ◌&&◌, nat_le, nat_lt, List, [], ◌∷◌}
use Rattle.std.proofs.Common.{filter, count_by, length, Option, Some, None, refl, sym, ap, ◌∙◌, subst, arith}
use Rattle.std.proofs.lemmas.Bool.{ltb-true, ltb-false, le-leb, le-ltb, lt-ltb}
use Rattle.std.proofs.lemmas.List.Sums.{count_by-le-length, length-filter}
use Rattle.std.specs.List.{AllByRecursion}
use Rattle.pam_outside.specs.Paths.{path_of}
use Rattle.mod_tally.specs.declared.tally.Failure.{Failure}
use Rattle.mod_tally.specs.Faillock.{tally_name}
use Rattle.mod_tally.specs.Recorded.{Deed, Follow, IsWith, Served, cleared, deeds_of, failures_on_file, is_written, left, recorded, recorded_by, failures_by}
use Rattle.mod_tally.specs.Settings.{PlainSettings, settings_of}
use Rattle.mod_tally.specs.Tally.{counting, counts, failures_of, is_locked, is_soon, latest}
use Rattle.laws_lock.specs.Failed.{AreEnough, EnoughFailuresLock, WrongPasswordsLock, recent}
use Rattle.laws_lock.specs.Locked.{LockedIsRefused}

-- ---- the latest of those that count is the latest of all

latest_of : (x : Failure) (kept all : List Failure) (b : Bool) → latest kept ≤ latest all → latest (cond b (x ∷ kept) kept) ≤ latest (x ∷ all)
latest_of x kept all true le = omega (arith, le)
latest_of x kept all false le = omega (arith, le)

not_later : (p : Failure → Bool) (xs : List Failure) → latest (filter p xs) ≤ latest xs
not_later p [] = omega arith
not_later p (x ∷ xs) = latest_of x (filter p xs) xs (p x) (not_later p xs)

by_greatest : (i g : ℕ) (x : Failure) (kept xs : List Failure) (b : Bool) → counts i g x ≡ b → 0 < i → max x.moment (latest xs) ≡ g → latest kept ≤ latest xs
    → (latest xs ≡ g → latest kept ≡ g) → latest (cond b (x ∷ kept) kept) ≡ g
by_greatest i g x kept xs true c some e le same = either (ltb (latest xs) g) refl
  where
    either : (b : Bool) → ltb (latest xs) g ≡ b → max x.moment (latest kept) ≡ g
    either true lt = omega (arith, ltb-true (latest xs) g lt, le, e)
    either false ge = omega (arith, same (omega (arith, ltb-false (latest xs) g ge, e)), e)
by_greatest i g x kept xs false c some e le same = same (omega (arith, ltb-false (g - x.moment) i c, e, some))

same_latest : (i g : ℕ) (xs : List Failure) → 0 < i → latest xs ≡ g → latest (filter (counts i g) xs) ≡ g
same_latest i g [] some e = e
same_latest i g (x ∷ xs) some e = by_greatest i g x (filter (counts i g) xs) xs (counts i g x) refl some e (not_later (counts i g) xs) (same_latest i g xs some)

none_counts : (g : ℕ) (xs : List Failure) → filter (counts 0 g) xs ≡ []
none_counts g [] = refl
none_counts g (x ∷ xs) = rw (le-ltb (g - x.moment) 0 (omega arith)) (none_counts g xs)

-- what counts, counts still among those that count
twice_by : (p : Failure → Bool) (x : Failure) (rest : List Failure) (b : Bool) → p x ≡ b
    → filter p (cond b (x ∷ rest) rest) ≡ cond b (x ∷ filter p rest) (filter p rest)
twice_by p x rest true e = rw e refl
twice_by p x rest false e = refl

twice : (p : Failure → Bool) (xs : List Failure) → filter p (filter p xs) ≡ filter p xs
twice p [] = refl
twice p (x ∷ xs) = twice_by p x (filter p xs) (p x) refl ∙ ap (λ (fs : List Failure). cond (p x) (x ∷ fs) fs) (twice p xs)

-- ---- enough failures lock

both_true : (a b c : Bool) → a ≡ true → b ≡ true → c ≡ true → (a && b && c) ≡ true
both_true a b c p q r = rw (p, q, r) refl

unwritten : (deeds : List Deed) (failures : List Failure) → is_written deeds ≡ false → recorded_by deeds failures ≡ failures
unwritten [] failures e = refl
unwritten (left ∷ ds) failures e = unwritten ds failures e
unwritten (recorded interval failure ∷ ds) failures e = absurd (true≢false e)
unwritten (cleared ∷ ds) failures e = absurd (true≢false e)

module _ (s : PlainSettings) where
  -- if some count, the time within which they do isn't 0
  lasts : (xs : List Failure) → 0 < recent s xs → 0 < s.interval
  lasts xs some = by (ltb 0 s.interval) refl
    where
      by : (b : Bool) → ltb 0 s.interval ≡ b → 0 < s.interval
      by true e = ltb-true 0 s.interval e
      by false e =
          let zero : s.interval ≡ 0 = omega (arith, ltb-false 0 s.interval e) in
          let none : recent s xs ≡ 0 =
          sym (length-filter (counts s.interval (latest xs)) xs)
          ∙ ap (λ (i : ℕ). length (filter (counts i (latest xs)) xs)) zero
          ∙ ap (λ (fs : List Failure). length fs) (none_counts (latest xs) xs) in
          absurd (omega (arith, some, none))

  last_still : (xs : List Failure) → 0 < recent s xs → latest (counting s.interval xs) ≡ latest xs
  last_still xs some = same_latest s.interval (latest xs) xs (lasts xs some) refl

  -- of those that count, all count
  recent_still : (xs : List Failure) → 0 < recent s xs → recent s (counting s.interval xs) ≡ recent s xs
  recent_still xs some =
      let ys = counting s.interval xs in
      ap (λ (g : ℕ). count_by (counts s.interval g) ys) (last_still xs some)
      ∙ sym (length-filter (counts s.interval (latest xs)) ys)
      ∙ ap (λ (fs : List Failure). length fs) (twice (counts s.interval (latest xs)) xs)
      ∙ length-filter (counts s.interval (latest xs)) xs

  module _ (now : ℕ) where
    enough_lock : (failures : List Failure) → AreEnough s now failures → is_locked s.deny s.interval s.unlock now failures ≡ true
    enough_lock failures e =
        let le : recent s failures ≤ length failures = count_by-le-length (counts s.interval (latest failures)) failures in
        both_true (nat_lt 0 (length failures)) (nat_le s.deny (recent s failures)) (is_soon s.unlock (latest failures) now)
        (lt-ltb 0 (length failures) (omega (arith, e.some, le))) (le-leb s.deny (recent s failures) e.enough) e.soon

    counting_enough : (xs : List Failure) → AreEnough s now xs → AreEnough s now (counting s.interval xs)
    counting_enough xs e =
        let same = recent_still xs e.some in
        let last = last_still xs e.some in
        record {
          some = subst (λ (n : ℕ). 0 < n) (sym same) e.some;
          enough = subst (λ (n : ℕ). s.deny ≤ n) (sym same) e.enough;
          soon = subst (λ (m : ℕ). is_soon s.unlock m now ≡ true) (sym last) e.soon;
        }

    standing_enough : (written : Bool) (deeds : List Deed) (failures : List Failure) → is_written deeds ≡ written → AreEnough s now (recorded_by deeds failures)
        → AreEnough s now (cond written (counting s.interval (recorded_by deeds failures)) failures)
    standing_enough true deeds failures is e = counting_enough (recorded_by deeds failures) e
    standing_enough false deeds failures is e = subst (AreEnough s now) (unwritten deeds failures is) e

    -- a file with enough failures is there
    record Holds (after : Option (List ℕ)) (failures : List Failure) : Type 0 where
      text : List ℕ
      is : after ≡ Some text
      failures_are : failures_of text ≡ Some failures

    holds : (after : Option (List ℕ)) (failures : List Failure) → failures_on_file after ≡ Some failures → AreEnough s now failures → Holds after failures
    holds (Some text) failures are e = record { text = text; is = refl; failures_are = are }
    holds None failures are e =
        let is : Some [] ≡ Some failures = are in
        let none : failures ≡ [] = cc in
        let some : 0 < recent s [] = subst (λ (fs : List Failure). 0 < recent s fs) none e.some in
        absurd (omega (arith, some, count_by-le-length (counts s.interval 0) []))

-- ---- the next call

pub enough_failures_lock : ((path : List ℕ) (interval : ℕ) (calls : List Served) (before after : Option (List ℕ)) (failures : List Failure)
    → Follow path before calls after → AllByRecursion (IsWith interval) (deeds_of calls) → failures_on_file before ≡ Some failures
    → failures_on_file after ≡ Some (failures_by interval (deeds_of calls) failures))
    → EnoughFailuresLock
enough_failures_lock all calls before after failures s sight user follow one stood enough counted at fits =
    let now = sight.clock.moment in
    let path = path_of sight.root (tally_name s.folder user) in
    let still = failures_by s.interval (deeds_of calls) failures in
    let are = standing_enough s now (is_written (deeds_of calls)) (deeds_of calls) failures refl enough in
    let h = holds s now after still (all path s.interval calls before after failures follow one stood) are in
    record {
      named = counted.named;
      passwd = counted.passwd;
      passwd_is = counted.passwd_is;
      passwd_fits = counted.passwd_fits;
      entries = counted.entries;
      entries_are = counted.entries_are;
      entry = counted.entry;
      entry_is = counted.entry_is;
      lockable = counted.lockable;
      folder = counted.folder;
      tally = h.text;
      tally_is = at ∙ h.is;
      tally_fits = fits h.text h.is;
      failures = still;
      failures_are = h.failures_are;
      locked = enough_lock s now still are;
      none_fails = counted.none_fails;
    }

pub wrong_passwords_lock : LockedIsRefused → EnoughFailuresLock → WrongPasswordsLock
wrong_passwords_lock refuses lock calls before after failures call room held sight user follow one stood enough func mode set counted at fits =
    refuses call room held sight user func mode set
    (lock calls before after failures (settings_of call.args) sight user follow one stood enough counted at fits)
