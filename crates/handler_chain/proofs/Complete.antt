-- If each line that is run has a cached code, no cached code is missing.
use Rattle.std.proofs.Common.{◌≡◌, ℕ, zero, suc, ◌+◌, Bool, true, false, true≢false, nat_eq, if◌then◌else◌, List, [], ◌∷◌, ◌++◌, Option, Some, None, is_some, refl, sym, ◌∙◌, ap, eq-eqb}
use Rattle.std.specs.List.{list_any}
use Rattle.std.proofs.lemmas.List.Folds.{list_any-append}
use Rattle.std.proofs.lemmas.Bool.{or_left, or_right}
use Rattle.pam_base.specs.declared.code.Code.{Code}
use Rattle.control_words.specs.Control.{action_at}
use Rattle.control_words.specs.Stack.{Stack, none, line, sub, count, lines_in}
use Rattle.handler_chain.specs.Walk.{Next, after, stop}
use Rattle.handler_chain.specs.Route.{KeptAnswers, next_by, negative_past, Met, met, with_met, onto, met_at, route_from}

abbrev pub IsOn : ℕ → List ℕ → Type 0
IsOn place places = list_any (nat_eq place) places ≡ true

pub on_first : (place : ℕ) (xs ys : List ℕ) → IsOn place xs → IsOn place (xs ++ ys)
on_first place xs ys is = list_any-append (nat_eq place) xs ys ∙ or_left (list_any (nat_eq place) xs) _ is

pub on_second : (place : ℕ) (xs ys : List ℕ) → IsOn place ys → IsOn place (xs ++ ys)
on_second place xs ys is = list_any-append (nat_eq place) xs ys ∙ or_right (list_any (nat_eq place) xs) _ is

module _ (kept : KeptAnswers) where
  abbrev All_kept : Met → Type 0
  All_kept m = (place : ℕ) → IsOn place m.places → is_some (kept place) ≡ true

  has_onto : (next : Next) (f : ℕ → Met) (now : Bool) → ((n : ℕ) → All_kept (f n) → (f n).lacks ≡ false) → All_kept (onto next f (met now))
      → (onto next f (met now)).lacks ≡ false
  has_onto (after n) f now each all = each n all
  has_onto stop f now each all = refl

  has_at : (at : ℕ) (answer : Option Code) (now : Bool) (on : Code → Met) → kept at ≡ answer → ((k : Code) → All_kept (on k) → (on k).lacks ≡ false)
      → All_kept (met_at at answer now on) → (met_at at answer now on).lacks ≡ false
  has_at at None now on is each all =
      absurd (true≢false (sym (all at (or_left (nat_eq at at) false (eq-eqb at at refl))) ∙ ap is_some is))
  has_at at (Some k) now on is each all = each k (λ place is_on. all place (on_second place (at ∷ []) (on k).places is_on))

  has_sub : (c : Bool) (first rest : Met) → first.lacks ≡ c → (All_kept first → first.lacks ≡ false) → (All_kept rest → rest.lacks ≡ false)
      → All_kept (if c then first else with_met first.places rest) → (if c then first else with_met first.places rest).lacks ≡ false
  has_sub true first rest is one two all = one all
  has_sub false first rest is one two all = two (λ place is_on. all place (on_second place first.places rest.places is_on))

  pub has_all : (t : Stack) (n at : ℕ) (entry now : Bool) → All_kept (route_from kept n t at entry now) → (route_from kept n t at entry now).lacks ≡ false
  has_all none n at entry now all = refl
  has_all (line rule rest) (suc n) at entry now all = has_all rest n (at + 1) entry now all
  has_all (sub inner rest) (suc n) at entry now all = has_all rest n (at + lines_in inner) entry now all
  has_all (line rule rest) zero at entry now all =
      has_at at (kept at) now _ refl
      (λ k. has_onto (next_by (action_at rule.control k) (count rest) now) _ _ (λ n. has_all rest n (at + 1) entry (negative_past (action_at rule.control k) (count rest) entry now)))
      all
  has_all (sub inner rest) zero at entry now all =
      let inside : Met = route_from kept zero inner at now now in
      has_sub inside.lacks inside (route_from kept zero rest (at + lines_in inner) entry inside.negative) refl (has_all inner zero at now now) (has_all rest zero (at + lines_in inner) entry inside.negative) all
