-- Lines are cut and refused as the conditions on a stream require.
use Rattle.std.proofs.Common.{◌≡◌, ℕ, ◌+◌, ◌≤◌, ◌<◌, inl, inr, Bool, true, false, ◌||◌, leb, ltb, List, [], ◌∷◌, ◌++◌, length, take, drop, Some, refl, ap, ◌∙◌, append_assoc, arith}
use Rattle.std.proofs.lemmas.Bool.{le-ltb, lt-ltb, le-leb, lt-leb}
use Rattle.std.proofs.lemmas.List.{nil_from_length}
use Rattle.pam_base.specs.Bytes.{has_byte, IsFirstPlace}
use Rattle.pam_base.specs.Lines.{cut}
use Rattle.record_reader.specs.Cutting.{Cuts, Keeps}
use Rattle.record_reader.specs.FirstItem.{IsItem}
use Rattle.record_reader.specs.Looked.{IsOver, looked}
use Rattle.record_reader.specs.LineRun.{LineStep, step_at}
use Rattle.record_reader.specs.LineTurns.{IsLimit}
use Rattle.record_reader.proofs.SeenLineFacts.{looked-line, looked-last, looked-partial, looked-none, one_part}
use Rattle.record_reader.proofs.Running_lines.{accepted-fits}
use Rattle.record_reader.proofs.RefusedLineFacts.{run-stays}

or_left : (a b : Bool) → a ≡ true → (a || b) ≡ true
or_left a b e = rw e refl

or_right : (a b : Bool) → b ≡ true → (a || b) ≡ true
or_right true b e = refl
or_right false b e = e

over : (n : ℕ) (line : List ℕ) → IsOver n line → (leb 65536 n || ltb 513 (length line)) ≡ true
over n line (inl many) = or_left _ (ltb 513 (length line)) (le-leb 65536 n many)
over n line (inr long) = or_right (leb 65536 n) _ (lt-ltb 513 (length line) long)

both : (b : Bool) → b ≡ true → b ≡ false → ⊥
both true e f = absurd cc
both false e f = absurd cc

-- ---- what comes first

pub line_front : (n place : ℕ) (held : List ℕ) → IsFirstPlace (Some place) 10 held → IsItem looked n place (place + 1) held
line_front n place held at = record {
  within = omega arith;
  whole = omega (arith, at.0);
  seen = λ more ended.
      ap (λ (t : List ℕ). looked n t ended) (ap (λ (t : List ℕ). t ++ more) at.2 ∙ append_assoc (take place held) (10 ∷ drop (place + 1) held) more)
      ∙ looked-line n (take place held) (drop (place + 1) held ++ more) ended at.1;
}

pub wait_front : (limit n : ℕ) (held : List ℕ) → IsLimit limit n → length held ≤ limit → has_byte 10 held ≡ false
    → (looked n held false ≡ []) × (length held ≤ 581)
wait_front limit n held (inl h) le e = (looked-partial n held e (rw (lt-leb 65536 n h.1, le-ltb 513 (length held) (omega (arith, le, h.0))) refl), omega (arith, le, h.0))
wait_front limit n held (inr h) le e =
    let none = nil_from_length held (omega (arith, le, h.0)) in
    (ap (λ (t : List ℕ). looked n t false) none ∙ looked-none n false, omega (arith, le, h.0))

is_over : (limit n : ℕ) (held : List ℕ) → IsLimit limit n → limit < length held → IsOver n held
is_over limit n held (inl h) lt = inr (omega (arith, lt, h.0))
is_over limit n held (inr h) lt = inl h.1

pub last_front : (limit n : ℕ) (held : List ℕ) → IsLimit limit n → limit < length held → has_byte 10 held ≡ false
    → (0 < length held) × (looked n held false ≡ held ∷ []) × IsOver n held
last_front limit n held lim lt e =
    let o = is_over limit n held lim lt in
    (omega (arith, lt), looked-last n held false (omega (arith, lt)) e (over n held o), o)

-- ---- laws

-- bytes that wait for more have no newline
no_lines : (ls more : List (List ℕ)) → ls ++ more ≡ [] → ls ≡ []
no_lines [] more e = refl
no_lines (l ∷ ls) more e = absurd cc

rest_by : (n : ℕ) (held : List ℕ) → looked n held false ≡ [] → 0 < length held → has_byte 10 held ≡ false → looked n held true ≡ held ∷ []
rest_by n held e some none = looked-last n held true some none refl

pub lines_cut : Cuts looked
unfolding looked
lines_cut = record {
  none = looked-none;
  rest = λ n held e some. rest_by n held e some (one_part held (no_lines (cut held).lines _ e));
}

pub lines_keep : {State : Type 0} (step : LineStep State) → Keeps looked IsOver (step_at step)
lines_keep step = record {
  refused = λ n line o s x e. both _ (over n line o) (accepted-fits step n s line x e);
  stays = run-stays step;
}
