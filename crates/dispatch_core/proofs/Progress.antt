-- What a first run has cached, as more of its lines are run.
use Rattle.std.proofs.Common.{◌≡◌, ◌≢◌, ℕ, zero, suc, ◌+◌, ◌<◌, Bool, true, false, nat_eq, if◌then◌else◌, List, [], ◌∷◌, ◌++◌, length, Option, Some, None, is_some, slice_get, slice_set, inl, inr, refl, sym, ◌∙◌, ap, arith, eq-eqb, ne_eqb}
use Rattle.std.specs.Option.{option_flatten}
use Rattle.std.proofs.lemmas.Bool.{cases_eq}
use Rattle.std.proofs.lemmas.List.{length-replicate, length-set}
use Rattle.pam_base.specs.declared.code.Code.{Code}
use Rattle.frozen_chain.specs.Kept.{Answers, empty_cells, kept_at, lines_kept}
use Rattle.handler_chain.specs.declared.pass_kind.PassKind.{PassKind}
use Rattle.handler_chain.specs.declared.pass_kind.PassKind.TheVariants as kinds
use Rattle.handler_chain.specs.Pass.{Visit, visit, kept_in, answers_of}
use Rattle.dispatch_core.specs.Passes.{by_place, first_cells, Keeps}

-- ---- cells

no_answer : (n i : ℕ) → option_flatten (slice_get (empty_cells n) i) ≡ None
no_answer zero i = refl
no_answer (suc n) zero = refl
no_answer (suc n) (suc i) = no_answer n i

empty-place : (n place : ℕ) → by_place (Some (empty_cells n)) place ≡ None
empty-place n zero = refl
empty-place n (suc i) = no_answer n i

set_same : (cells : List (Option Code)) (i : ℕ) (answer : Code) → i < length cells
    → option_flatten (slice_get (slice_set cells i (Some answer)) i) ≡ Some answer
set_same [] i answer within = absurd (omega (arith, within))
set_same (x ∷ xs) zero answer within = refl
set_same (x ∷ xs) (suc i) answer within = set_same xs i answer (omega arith)

set_other : (cells : List (Option Code)) (i j : ℕ) (answer : Code) → j ≢ i
    → option_flatten (slice_get (slice_set cells i (Some answer)) j) ≡ option_flatten (slice_get cells j)
set_other [] i j answer other = refl
set_other (x ∷ xs) zero zero answer other = absurd (other refl)
set_other (x ∷ xs) zero (suc j) answer other = refl
set_other (x ∷ xs) (suc i) zero answer other = refl
set_other (x ∷ xs) (suc i) (suc j) answer other = set_other xs i j answer (λ same. other (ap suc same))

-- ---- lines that were run

other_if : (b : Bool) (x : Code) (first second : Option Code) → second ≡ first → (if b then Some x else second) ≡ (if b then Some x else first)
other_if true x first second is = refl
other_if false x first second is = is

kept_in-other : (visits : List Visit) (at place : ℕ) (answer : Code) → place ≢ at → kept_in (visits ++ visit at answer ∷ []) place ≡ kept_in visits place
kept_in-other [] at place answer other = ap (λ (b : Bool). if b then Some answer else None) (ne_eqb place at other)
kept_in-other (v ∷ vs) at place answer other = other_if (nat_eq place v.place) v.answer _ _ (kept_in-other vs at place answer other)

new_if : (b : Bool) (x : Code) (first second third : Option Code) → (first ≡ None → second ≡ third) → (if b then Some x else first) ≡ None
    → (if b then Some x else second) ≡ third
new_if true x first second third goes is = cc
new_if false x first second third goes is = goes is

kept_in-new : (visits : List Visit) (at : ℕ) (answer : Code) → kept_in visits at ≡ None → kept_in (visits ++ visit at answer ∷ []) at ≡ Some answer
kept_in-new [] at answer is = ap (λ (b : Bool). if b then Some answer else None) (eq-eqb at at refl)
kept_in-new (v ∷ vs) at answer is = new_if (nat_eq at v.place) v.answer _ _ (Some answer) (kept_in-new vs at answer) is

answers-more : (visits : List Visit) (at : ℕ) (answer : Code) → answers_of (visits ++ visit at answer ∷ []) ≡ answers_of visits ++ answer ∷ []
answers-more [] at answer = refl
answers-more (v ∷ vs) at answer = ap (λ (cs : List Code). v.answer ∷ cs) (answers-more vs at answer)

-- ---- both

-- what was cached and taken belongs to these lines, and no line from index `at` on was run
pub record Progress (kept : Answers) (taken : List Code) (at : ℕ) (visits : List Visit) : Type 0 where
  pub taken_is : taken ≡ answers_of visits
  pub kept_is : is_some kept ≡ true → Keeps kept visits
  pub below : (place : ℕ) → at < place → kept_in visits place ≡ None

pub nothing_yet : (kept : Answers) (taken : List Code) (lines at : ℕ) → (is_some kept ≡ true → kept ≡ Some (empty_cells lines)) → taken ≡ []
    → Progress kept taken at []
nothing_yet kept taken lines at cells none = record {
  taken_is = none;
  kept_is = λ there place. ap (λ (k : Answers). by_place k place) (cells there) ∙ empty-place lines place;
  below = λ place past. refl;
}

keeps_more : (kept : Answers) (at place : ℕ) (visits : List Visit) (answer : Code) → at < lines_kept kept → Keeps kept visits → kept_in visits (at + 1) ≡ None
    → by_place (kept_at kept at answer) place ≡ kept_in (visits ++ visit (at + 1) answer ∷ []) place
keeps_more None at place visits answer room keeps new = absurd (omega (arith, room))
keeps_more (Some cells) at zero visits answer room keeps new =
    keeps zero ∙ sym (kept_in-other visits (at + 1) zero answer (λ same. absurd (omega (arith, same))))
keeps_more (Some cells) at (suc i) visits answer room keeps new =
    elim (cases_eq i at) [
      | inl same ↦
          let there : suc i ≡ at + 1 = omega (arith, same) in
          ap (λ n. option_flatten (slice_get (slice_set cells at (Some answer)) n)) same ∙ set_same cells at answer room
          ∙ sym (ap (kept_in (visits ++ visit (at + 1) answer ∷ [])) there ∙ kept_in-new visits (at + 1) answer new)
      | inr other ↦
          set_other cells at i answer other ∙ keeps (suc i) ∙ sym (kept_in-other visits (at + 1) (suc i) answer (λ same. other (omega (arith, same))))
    ]

pub one_more : (kept new : Answers) (taken later : List Code) (at next : ℕ) (visits : List Visit) (answer : Code) → Progress kept taken at visits
    → (is_some kept ≡ true → at < lines_kept kept) → is_some new ≡ is_some kept → new ≡ kept_at kept at answer → later ≡ taken ++ answer ∷ [] → at < next
    → Progress new later next (visits ++ visit (at + 1) answer ∷ [])
one_more kept new taken later at next visits answer progress room held keeps takes ahead = record {
  taken_is = takes ∙ ap (λ (cs : List Code). cs ++ answer ∷ []) progress.taken_is ∙ sym (answers-more visits (at + 1) answer);
  kept_is = λ there place.
      let before : is_some kept ≡ true = sym held ∙ there in
      ap (λ (k : Answers). by_place k place) keeps ∙ keeps_more kept at place visits answer (room before) (progress.kept_is before) (progress.below (at + 1) (omega arith));
  below = λ place past. kept_in-other visits (at + 1) place answer (λ same. absurd (omega (arith, same))) ∙ progress.below place (omega arith);
}

-- one more code keeps the cells
pub lines_kept-more : (kept : Answers) (at : ℕ) (answer : Code) → lines_kept (kept_at kept at answer) ≡ lines_kept kept
lines_kept-more None at answer = refl
lines_kept-more (Some cells) at answer = length-set cells at (Some answer)

pub held-more : (kept : Answers) (at : ℕ) (answer : Code) → is_some (kept_at kept at answer) ≡ is_some kept
held-more None at answer = refl
held-more (Some cells) at answer = refl

pub lines_kept-empty : (n : ℕ) → lines_kept (Some (empty_cells n)) ≡ n
lines_kept-empty n = length-replicate n None

pub first_cells-open : (kind : PassKind) (n : ℕ) → is_some (first_cells kind n) ≡ true → first_cells kind n ≡ Some (empty_cells n)
first_cells-open kinds.Keep n there = refl
first_cells-open kinds.Follow n there = cc
first_cells-open kinds.Loose n there = cc

pub first_cells-held : (kind : PassKind) (n : ℕ) → kind ≡ kinds.Keep → is_some (first_cells kind n) ≡ true
first_cells-held kind n keep = ap (λ (k : PassKind). is_some (first_cells k n)) keep
