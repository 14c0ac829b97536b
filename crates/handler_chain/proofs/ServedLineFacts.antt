-- What is known of the servings of first runs and of runs by cached codes.
use Rattle.std.proofs.Common.{◌≡◌, ℕ, ◌+◌, ◌≤◌, Bool, true, false, true≢false, if◌then◌else◌, List, [], ◌∷◌, ◌++◌, Option, Some, None, unwrap_or, refl, sym, ◌∙◌, ap, le_trans, arith}
use Rattle.pam_base.specs.declared.code.Code.{Code}
use Rattle.control_words.specs.declared.nodes.Rule.{Rule}
use Rattle.handler_chain.specs.declared.pass_kind.PassKind.{PassKind}
use Rattle.handler_chain.specs.declared.pass_kind.PassKind.TheVariants as kinds
use Rattle.handler_chain.specs.Route.{KeptAnswers}
use Rattle.handler_chain.specs.Pass.{Visit, Answering, is_incomplete, visit, PassState, kept_in, places_of, served_past, serving}
use Rattle.handler_chain.proofs.CachedRouteFacts.{Tells, Finds}
use Rattle.handler_chain.proofs.CachedCodeFacts.{places-add, kept-still, kept-add, kept-past}

if_false : (b : Bool) (x y : List Visit) → b ≡ false → (if b then x else y) ≡ y
if_false true x y is = absurd (true≢false is)
if_false false x y is = refl

if_true : (b : Bool) (x y : List Visit) → b ≡ true → (if b then x else y) ≡ x
if_true true x y is = refl
if_true false x y is = absurd (true≢false (sym is))

module _ (State : Type 0) (kind : PassKind) (kept : KeptAnswers) (answering : Answering State) where
  -- a line counts as run, with its present code, unless it leaves the pass incomplete
  pub visited : (rule : Rule) (at : ℕ) (past : List Code) (vs : List Visit) (s : State) → (served_past kind kept answering rule at past vs s).stopped ≡ false
      → (served_past kind kept answering rule at past vs s).state.visits ≡ vs ++ visit at (served_past kind kept answering rule at past vs s).answer ∷ []
  visited rule at [] vs s is = if_false (is_incomplete (answering rule at s).answer) vs _ is
  visited rule at (p ∷ past) vs s is = refl

  pub unvisited : (rule : Rule) (at : ℕ) (past : List Code) (vs : List Visit) (s : State) → (served_past kind kept answering rule at past vs s).stopped ≡ true
      → (served_past kind kept answering rule at past vs s).state.visits ≡ vs
  unvisited rule at [] vs s is = if_true (is_incomplete (answering rule at s).answer) vs _ is
  unvisited rule at (p ∷ past) vs s is = absurd (true≢false (sym is))

-- the rule numbers that a state has seen
abbrev pub seen : {State : Type 0} → PassState State → List ℕ
seen g = places_of g.visits

-- nothing is stated
abbrev pub Any_at : (State : Type 0) → ℕ → PassState State → Type 0
Any_at State at g = Unit {0}

abbrev pub Any : (State : Type 0) → PassState State → Type 0
Any State g = Unit {0}

-- no line from here on was run
abbrev pub Below : (State : Type 0) → ℕ → PassState State → Type 0
Below State at g = (place : ℕ) → at ≤ place → kept_in g.visits place ≡ None

-- each line that was run has its code cached
abbrev pub Agrees : (State : Type 0) → KeptAnswers → PassState State → Type 0
Agrees State kept g = (place : ℕ) (k : Code) → kept_in g.visits place ≡ Some k → kept place ≡ Some k

decides_kept : (State : Type 0) (kept : KeptAnswers) (answering : Answering State) (rule : Rule) (at : ℕ) (past : List Code) (vs : List Visit) (s : State) (k : Code)
    → kept at ≡ Some k → (served_past kinds.Follow kept answering rule at past vs s).deciding ≡ k
decides_kept State kept answering rule at [] vs s k is = ap (λ (o : Option Code). unwrap_or o (answering rule at s).answer) is
decides_kept State kept answering rule at (p ∷ past) vs s k is = ap (λ (o : Option Code). unwrap_or o p) is

pub follow_tells : (State : Type 0) (kept : KeptAnswers) (answering : Answering State)
    → Tells (PassState State) (serving kinds.Follow kept answering) kept seen (Any_at State) (Any State)
follow_tells State kept answering = record {
  on = λ rule at g is. ap places_of (visited State kinds.Follow kept answering rule at g.past g.visits g.state is) ∙ places-add g.visits at _;
  off = λ rule at g is. ap places_of (unvisited State kinds.Follow kept answering rule at g.past g.visits g.state is);
  low = λ rule at g low. tt;
  up = λ at later g le low. tt;
  back = λ rule at g ok. tt;
  agrees = λ rule at g k low ok runs is. decides_kept State kept answering rule at g.past g.visits g.state k is;
}

-- a first run; `kept` has the codes of the lines that it will have run
decides_present : (State : Type 0) (before : KeptAnswers) (answering : Answering State) (rule : Rule) (at : ℕ) (past : List Code) (vs : List Visit) (s : State)
    → (served_past kinds.Keep before answering rule at past vs s).deciding ≡ (served_past kinds.Keep before answering rule at past vs s).answer
decides_present State before answering rule at [] vs s = refl
decides_present State before answering rule at (p ∷ past) vs s = refl

visits_past : (b : Bool) (vs : List Visit) (at : ℕ) (p : Code) (place : ℕ) → at + 1 ≤ place → kept_in vs place ≡ None
    → kept_in (if b then vs else vs ++ visit at p ∷ []) place ≡ None
visits_past true vs at p place le is = is
visits_past false vs at p place le is = kept-past vs at place p le is

served_below : (State : Type 0) (before : KeptAnswers) (answering : Answering State) (rule : Rule) (at : ℕ) (past : List Code) (vs : List Visit) (s : State) (place : ℕ)
    → at + 1 ≤ place → kept_in vs place ≡ None → kept_in (served_past kinds.Keep before answering rule at past vs s).state.visits place ≡ None
served_below State before answering rule at [] vs s place le is = visits_past (is_incomplete (answering rule at s).answer) vs at _ place le is
served_below State before answering rule at (p ∷ past) vs s place le is = kept-past vs at place p le is

visits_still : (b : Bool) (vs ws : List Visit) (place : ℕ) (k : Code) → kept_in vs place ≡ Some k → kept_in (if b then vs else vs ++ ws) place ≡ Some k
visits_still true vs ws place k is = is
visits_still false vs ws place k is = kept-still vs ws place k is

served_still : (State : Type 0) (before : KeptAnswers) (answering : Answering State) (rule : Rule) (at : ℕ) (past : List Code) (vs : List Visit) (s : State) (place : ℕ) (k : Code)
    → kept_in vs place ≡ Some k → kept_in (served_past kinds.Keep before answering rule at past vs s).state.visits place ≡ Some k
served_still State before answering rule at [] vs s place k is = visits_still (is_incomplete (answering rule at s).answer) vs _ place k is
served_still State before answering rule at (p ∷ past) vs s place k is = kept-still vs _ place k is

module _ (State : Type 0) (kept before : KeptAnswers) (answering : Answering State) where
  kept_here : (rule : Rule) (at : ℕ) (g : PassState State) → Below State at g
      → Agrees State kept (serving kinds.Keep before answering rule at g).state → (serving kinds.Keep before answering rule at g).stopped ≡ false
      → kept at ≡ Some (serving kinds.Keep before answering rule at g).deciding
  kept_here rule at g low ok runs =
      let all : (serving kinds.Keep before answering rule at g).state.visits ≡ g.visits ++ visit at (serving kinds.Keep before answering rule at g).answer ∷ [] =
      visited State kinds.Keep before answering rule at g.past g.visits g.state runs in
      ok at _ (ap (λ (vs : List Visit). kept_in vs at) all ∙ kept-add g.visits at _ (low at (omega arith)) ∙ ap (λ (c : Code). Some c) (sym (decides_present State before answering rule at g.past g.visits g.state)))

  pub keep_tells : Tells (PassState State) (serving kinds.Keep before answering) kept seen (Below State) (Agrees State kept)
  keep_tells = record {
    on = λ rule at g is. ap places_of (visited State kinds.Keep before answering rule at g.past g.visits g.state is) ∙ places-add g.visits at _;
    off = λ rule at g is. ap places_of (unvisited State kinds.Keep before answering rule at g.past g.visits g.state is);
    low = λ rule at g low place le. served_below State before answering rule at g.past g.visits g.state place le (low place (omega arith));
    up = λ at later g le low place le'. low place (le_trans le le');
    back = λ rule at g ok place k is. ok place k (served_still State before answering rule at g.past g.visits g.state place k is);
    agrees = λ rule at g k low ok runs is. let here = kept_here rule at g low ok runs in let same : Some (serving kinds.Keep before answering rule at g).deciding ≡ Some k = sym here ∙ is in cc;
  }

  pub keep_finds : Finds (PassState State) (serving kinds.Keep before answering) kept (Below State) (Agrees State kept)
  keep_finds = λ rule at g low ok runs is. let here = kept_here rule at g low ok runs in let same : Some (serving kinds.Keep before answering rule at g).deciding ≡ None = sym here ∙ is in cc
