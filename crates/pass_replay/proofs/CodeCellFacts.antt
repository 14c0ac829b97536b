-- Cells that hold the codes of lines that were run.
use Rattle.std.proofs.Common.{◌≡◌, ◌≢◌, inl, inr, ℕ, ◌+◌, ◌<◌, Bool, true, false, if◌then◌else◌, nat_eq, List, [], ◌∷◌, ◌++◌, Option, Some}
use Rattle.std.proofs.Common.{None, take, length, get_or, refl, sym, ◌∙◌, ap}
use Rattle.std.specs.Option.{option_or}
use Rattle.std.proofs.lemmas.Bool.{cases_Bool, eqb-true, eqb-false}
use Rattle.std.proofs.lemmas.List.{take_more}
use Rattle.pam_base.specs.declared.code.Code.{Code}
use Rattle.handler_chain.specs.Pass.{Visit, visit, answers_of, kept_in}
use Rattle.pass_replay.specs.declared.visited.Visited.{Visited}
use Rattle.pass_replay.specs.Kept.{answers_in, visits_of}

-- one more code, for its line alone
abbrev pub one_at : ℕ → Code → ℕ → Option Code
one_at place answer other = if nat_eq other place then Some answer else None

first_of : (b : Bool) (answer : Code) (old new extra : Option Code) → new ≡ option_or old extra
    → (if b then Some answer else new) ≡ option_or (if b then Some answer else old) extra
first_of true answer old new extra is = refl
first_of false answer old new extra is = is

pub kept_in_more : (vs : List Visit) (v : Visit) (place : ℕ)
    → kept_in (vs ++ v ∷ []) place ≡ option_or (kept_in vs place) (one_at v.place v.answer place)
kept_in_more [] v place = refl
kept_in_more (w ∷ vs) v place =
    first_of (nat_eq place w.place) w.answer (kept_in vs place) (kept_in (vs ++ v ∷ []) place)
    (one_at v.place v.answer place) (kept_in_more vs v place)

pub visits_of-append : (xs ys : List Visited) → visits_of (xs ++ ys) ≡ visits_of xs ++ visits_of ys
visits_of-append [] ys = refl
visits_of-append (x ∷ xs) ys = ap (λ (vs : List Visit). visit x.place x.answer ∷ vs) (visits_of-append xs ys)

pub answers_of-append : (xs ys : List Visit) → answers_of (xs ++ ys) ≡ answers_of xs ++ answers_of ys
answers_of-append [] ys = refl
answers_of-append (x ∷ xs) ys = ap (λ (cs : List Code). x.answer ∷ cs) (answers_of-append xs ys)

one_more : (visits : List Visited) (i : ℕ) (d : Visited) → i < length visits
    → visits_of (take (i + 1) visits)
    ≡ visits_of (take i visits) ++ visit (get_or visits i d).place (get_or visits i d).answer ∷ []
one_more visits i d within =
    ap visits_of (take_more visits i d within) ∙ visits_of-append (take i visits) (get_or visits i d ∷ [])

pub answers_more : (visits : List Visited) (i : ℕ) (d : Visited) (answers : List Code) → i < length visits
    → answers ≡ answers_of (visits_of (take i visits))
    → answers ++ (get_or visits i d).answer ∷ [] ≡ answers_of (visits_of (take (i + 1) visits))
answers_more visits i d answers within sofar =
    let v : Visited = get_or visits i d in
    ap (λ (cs : List Code). cs ++ v.answer ∷ []) sofar
    ∙ sym (ap answers_of (one_more visits i d within)
    ∙ answers_of-append (visits_of (take i visits)) (visit v.place v.answer ∷ []))

-- no more codes are kept
or_none : (o : Option Code) → option_or o None ≡ o
or_none None = refl
or_none (Some answer) = refl

-- a cell for one more line, if it had none
cells_more : (old new : List (Option Code)) (at : ℕ) (answer : Code) (place : ℕ)
    → answers_in new at ≡ option_or (answers_in old at) (Some answer)
    → ((other : ℕ) → other ≢ at → answers_in new other ≡ answers_in old other)
    → answers_in new place ≡ option_or (answers_in old place) (one_at at answer place)
cells_more old new at answer place kept others = elim (cases_Bool (nat_eq place at)) [
  | inl y ↦
      let here : place ≡ at = eqb-true place at y in
      ap (answers_in new) here ∙ kept
      ∙ ap (λ p. option_or (answers_in old p) (Some answer)) (sym here)
      ∙ ap (λ (b : Bool). option_or (answers_in old place) (if b then Some answer else None)) (sym y)
  | inr n ↦
      others place (eqb-false place at n) ∙ sym (or_none (answers_in old place))
      ∙ ap (λ (b : Bool). option_or (answers_in old place) (if b then Some answer else None)) (sym n)
]

pub kept_more : (visits : List Visited) (i : ℕ) (d : Visited) (old new : List (Option Code)) (place : ℕ)
    → i < length visits
    → ((p : ℕ) → answers_in old p ≡ kept_in (visits_of (take i visits)) p)
    → answers_in new (get_or visits i d).place ≡ option_or (answers_in old (get_or visits i d).place) (Some (get_or visits i d).answer)
    → ((other : ℕ) → other ≢ (get_or visits i d).place → answers_in new other ≡ answers_in old other)
    → answers_in new place ≡ kept_in (visits_of (take (i + 1) visits)) place
kept_more visits i d old new place within sofar kept others =
    let v : Visited = get_or visits i d in
    cells_more old new v.place v.answer place kept others
    ∙ ap (λ (o : Option Code). option_or o (one_at v.place v.answer place)) (sofar place)
    ∙ sym (ap (λ (vs : List Visit). kept_in vs place) (one_more visits i d within)
    ∙ kept_in_more (visits_of (take i visits)) (visit v.place v.answer) place)
