-- The calls and openings that a check counts.
use Rattle.std.proofs.Common.{◌≡◌, ℕ, ◌+◌, ◌-◌, ◌≤◌, ◌^◌, min, Bool, true, false, cond, leb, ltb, List, [], ◌∷◌, Option, Result, Ok, Err, refl, sym, arith}
use Rattle.pam_base.specs.declared.fault.FaultKind.{FaultKind}
use Rattle.pam_outside.specs.Counts.{fails_next}
use Rattle.service_load.specs.declared.entry.ConfigEntry.{ConfigEntry}
use Rattle.service_load.specs.declared.rule_file.RuleFile.{RuleFile}
use Rattle.service_load.specs.Entry.{entry_of}
use Rattle.service_load.specs.Files.{FileContent, absent, faulty, holds, held, is_in_directory}
use Rattle.service_load.specs.FirstFault.{Counts, Stop, asked, absent_file, held_file, opened, take_one, checked_rule, going_on, look}
use Rattle.service_load.specs.Order.{Item, begin, opening, checked, made, Opener, as_service, as_other, as_last, by_rule, openings_in}

passed : (a b : Counts) → ◌≡◌ {A = Result Counts Stop} (Ok a) (Ok b) → a ≡ b
passed a b e = cc

-- if a choice would end at a fault in its first case and didn't, the other case was taken
otherwise : (b : Bool) (s : Stop) (r : Result Counts Stop) (c : Counts) → cond b (Err s) r ≡ Ok c → r ≡ Ok c
otherwise true s r c e = absurd cc
otherwise false s r c e = e

absent_passes : (counts c : Counts) (opener : Opener) → absent_file counts opener ≡ Ok c → c ≡ counts
absent_passes counts c as_service e = sym (passed counts c e)
absent_passes counts c as_other e = sym (passed counts c e)
absent_passes counts c (as_last name) e = absurd cc
absent_passes counts c (by_rule name line) e = absurd cc

held_passes : (counts c : Counts) (file : RuleFile) (opener : Opener) (h : FileContent) → held_file counts file opener h ≡ Ok c → c ≡ counts
held_passes counts c file opener absent e = absent_passes counts c opener e
held_passes counts c file opener (faulty f) e = absurd cc
held_passes counts c file opener (holds rules) e = sym (passed counts c e)

module _ (texts : List ℕ → Option (List ℕ)) (fails : List ℕ) where
  opened_passes : (counts c : Counts) (file : RuleFile) (level : ℕ) (opener : Opener) → opened texts fails counts file level opener ≡ Ok c → c ≡ asked counts
  opened_passes counts c file level opener e =
      held_passes (asked counts) c file opener (held texts file)
      (otherwise (fails_next counts.calls fails) _ _ c (otherwise (leb 256 counts.openings) _ _ c (otherwise (ltb 16 level) _ _ c e)))

  checked_passes : (counts c : Counts) (name : List ℕ) (line : ℕ) (x : Result ConfigEntry FaultKind) → checked_rule counts name line x ≡ Ok c → c ≡ counts
  checked_passes counts c name line (Ok entry) e = sym (passed counts c e)
  checked_passes counts c name line (Err kind) e = absurd cc

  -- what one item counts
  one_counts : (counts c : Counts) (i : Item) → counts.calls ≤ 2 ^ 64 - 1 → take_one texts fails counts i ≡ Ok c
      → (c.calls ≤ 2 ^ 64 - 1) × (c.openings ≡ counts.openings + openings_in (i ∷ [])) × (c.calls ≡ min (counts.calls + openings_in (i ∷ [])) (2 ^ 64 - 1))
  one_counts counts c begin small e = let same = passed _ c e in rw (← same) (small, omega arith, omega (arith, small))
  one_counts counts c (opening file level opener) small e = rw (opened_passes counts c file level opener e) (omega arith, refl, omega arith)
  one_counts counts c (checked file rule) small e =
      rw (checked_passes counts c file.name rule.line (entry_of (is_in_directory file) rule) e) (small, omega arith, omega (arith, small))
  one_counts counts c (made name line) small e =
      let same = passed _ c (otherwise (leb 4096 counts.lines) _ _ c e) in rw (← same) (small, omega arith, omega (arith, small))

  openings_on : (i : Item) (is : List Item) → openings_in (i ∷ is) ≡ openings_in (i ∷ []) + openings_in is
  openings_on begin is = omega arith
  openings_on (opening file level opener) is = omega arith
  openings_on (checked file rule) is = omega arith
  openings_on (made name line) is = omega arith

  stepped : (r : Result Counts Stop) (more : Counts → Result Counts Stop) (d : Counts) → going_on r more ≡ Ok d → (c : Counts) × (r ≡ Ok c) × (more c ≡ Ok d)
  stepped (Ok c) more d e = (c, refl, e)
  stepped (Err s) more d e = absurd cc

  pub look_counts : (before after : Counts) (items : List Item) → before.calls ≤ 2 ^ 64 - 1 → look texts fails before items ≡ Ok after
      → (after.openings ≡ before.openings + openings_in items) × (after.calls ≡ min (before.calls + openings_in items) (2 ^ 64 - 1))
  unfolding look
  look_counts before after [] small e = let same = passed before after e in rw (← same) (omega arith, omega (arith, small))
  look_counts before after (i ∷ is) small e =
      let step = stepped (take_one texts fails before i) (λ c. look texts fails c is) after e in
      let one = one_counts before step.0 i small step.1 in
      let rest = look_counts step.0 after is one.0 step.2 in
      (omega (arith, one.1, rest.0, openings_on i is), omega (arith, one.2, rest.1, openings_on i is))
