-- A walk in which each SUCCESS and each denial is due to a line.
use Rattle.std.proofs.Common.{◌≡◌, ◌⊎◌, inl, inr, ℕ, zero, suc, ◌+◌, ◌-◌, Bool, true, false, true≢false, ◌||◌, if◌then◌else◌, List, [], ◌∷◌}
use Rattle.std.proofs.Common.{◌++◌, length, length-append, get_or, refl, sym, ◌∙◌, ap, append_assoc, append-nil, arith}
use Rattle.std.specs.List.{list_any}
use Rattle.std.proofs.lemmas.List.{get_or_at}
use Rattle.pam_base.specs.declared.code.Code.{Code}
use Rattle.pam_base.specs.declared.code.Code.TheVariants as codes
use Rattle.control_words.specs.declared.control.Action.{Action}
use Rattle.control_words.specs.declared.nodes.Rule.{Rule}
use Rattle.control_words.specs.Control.{action_at}
use Rattle.control_words.specs.Keyword.{required, requisite}
use Rattle.control_words.specs.Stack.{Stack, none, line, sub, count, lines_in}
use Rattle.handler_chain.specs.declared.opinion.Opinion.{Opinion}
use Rattle.handler_chain.specs.declared.pass_kind.PassKind.{PassKind}
use Rattle.handler_chain.specs.Opinion.{acted, opening, verdict}
use Rattle.handler_chain.specs.Walk.{Next, Served, Walked, after, halted, next_of, new_or_overrun, onward, stop, walk, walked}
use Rattle.handler_chain.specs.Route.{KeptAnswers}
use Rattle.handler_chain.specs.Pass.{Answering, PassState, Visit, decides, is_incomplete, pass_after, pass_state, served_past, serving, visit}
use Rattle.handler_chain.proofs.Negativity.{negative_opinion}
use Rattle.laws_stack.specs.Deeds.{Granted, action_of, control_of, controls, deciding_of, denies, grants, resets}
use Rattle.laws_stack.specs.Success.{FailedLineDenies, FailedRequiredDenies, NoneResets, SuccessNeedsALine, is_failure}
use Rattle.laws_stack.proofs.ActionStateFacts.{denies_dooms, doomed_by, doomed_stays, negative_denies, settled_doomed, settled_from}

-- ---- lines that were run

-- whether one denied since the last reset
abbrev pub doomed : (Visit → Action) → Bool → List Visit → Bool
doomed acts now [] = now
doomed acts now (v ∷ vs) = doomed acts (doomed_by (acts v) now) vs

doomed-append : (acts : Visit → Action) (now : Bool) (vs ws : List Visit) → doomed acts now (vs ++ ws) ≡ doomed acts (doomed acts now vs) ws
doomed-append acts now [] ws = refl
doomed-append acts now (v ∷ vs) ws = doomed-append acts (doomed_by (acts v) now) vs ws

pub no_first : (b c : Bool) → (b || c) ≡ false → b ≡ false
no_first true c e = absurd (true≢false e)
no_first false c e = refl

pub no_second : (b c : Bool) → (b || c) ≡ false → c ≡ false
no_second true c e = absurd (true≢false e)
no_second false c e = e

still_doomed : (acts : Visit → Action) (vs : List Visit) → NoneResets acts vs → doomed acts true vs ≡ true
still_doomed acts [] e = refl
still_doomed acts (v ∷ vs) e =
    ap (λ (b : Bool). doomed acts b vs) (doomed_stays (acts v) (no_first (resets (acts v)) (list_any (λ v. resets (acts v)) vs) e))
    ∙ still_doomed acts vs (no_second (resets (acts v)) (list_any (λ v. resets (acts v)) vs) e)

doomed_there : (acts : Visit → Action) (before more : List Visit) (v : Visit) → denies (acts v) ≡ true → NoneResets acts more
    → doomed acts false (before ++ v ∷ more) ≡ true
doomed_there acts before more v denied calm =
    doomed-append acts false before (v ∷ more)
    ∙ ap (λ (b : Bool). doomed acts b more) (denies_dooms (acts v) (doomed acts false before) denied)
    ∙ still_doomed acts more calm

granted_still : (kind : PassKind) (acts : Visit → Action) (visits more new : List Visit) → new ≡ visits ++ more → Granted kind acts visits
    → Granted kind acts new
granted_still kind acts visits more new is g = record {
  before = g.before;
  place = g.place;
  after = g.after ++ more;
  split = is ∙ ap (λ (xs : List Visit). xs ++ more) g.split ∙ append_assoc g.before (visit g.place codes.Success ∷ g.after) more;
  counts = g.counts;
}

-- ---- the control of a line by its rule number

pub control_here : (all : Stack) (pre post : List (List Action)) (control : List Action) (at : ℕ) → controls all ≡ pre ++ control ∷ post → at ≡ length pre + 1
    → control_of all at ≡ control
control_here all pre post control at is there =
    let k : length pre ≡ at - 1 = omega (arith, there) in
    ap (λ (xs : List (List Action)). get_or xs (at - 1) []) is ∙ get_or_at pre control post [] (at - 1) k

pub controls-count : (t : Stack) → length (controls t) ≡ lines_in t
controls-count none = refl
controls-count (line rule rest) = let e = controls-count rest in omega (arith, e)
controls-count (sub inner rest) = let e = controls-count inner in let f = controls-count rest in let g = length-append (controls inner) (controls rest) in
    omega (arith, e, f, g)

-- ---- a line

module _ (State : Type 0) (kind : PassKind) (kept : KeptAnswers) where
  -- a line that was run is added, unless it left the run incomplete
  pub record Adds (at : ℕ) (visits : List Visit) (v : Served (PassState State)) : Type 0 where
    pub decided : v.deciding ≡ decides kind kept at v.answer
    pub stays : v.stopped ≡ true → v.state.visits ≡ visits
    pub adds : v.stopped ≡ false → v.state.visits ≡ visits ++ visit at v.answer ∷ []

  then_first : (b : Bool) (xs ys : List Visit) → b ≡ true → (if b then xs else ys) ≡ xs
  then_first true xs ys e = refl
  then_first false xs ys e = absurd (true≢false (sym e))

  else_second : (b : Bool) (xs ys : List Visit) → b ≡ false → (if b then xs else ys) ≡ ys
  else_second true xs ys e = absurd (true≢false e)
  else_second false xs ys e = refl

  pub line_adds : (answering : Answering State) (rule : Rule) (at : ℕ) (past : List Code) (visits : List Visit) (s : State)
      → Adds at visits (served_past kind kept answering rule at past visits s)
  line_adds answering rule at [] visits s =
      let answer = (answering rule at s).answer in
      record {
        decided = refl;
        stays = then_first (is_incomplete answer) visits (visits ++ visit at answer ∷ []);
        adds = else_second (is_incomplete answer) visits (visits ++ visit at answer ∷ []);
      }
  line_adds answering rule at (p ∷ past) visits s = record { decided = refl; stays = λ e. absurd (true≢false (sym e)); adds = λ e. refl }

  -- ---- a walk

  module _ (answering : Answering State) (all : Stack) where
    abbrev pub acts : Visit → Action
    acts = action_of kind kept all

    abbrev pub Backed : Opinion → List Visit → Type 0
    Backed o visits = verdict o ≡ codes.Success → Granted kind acts visits

    abbrev pub Denied : Opinion → List Visit → Type 0
    Denied o visits = doomed acts false visits ≡ true → negative_opinion o ≡ true

    pub record Due (visits : List Visit) (w : Walked (PassState State)) : Type 0 where
      pub news : List Visit
      pub adds : w.state.visits ≡ visits ++ news
      pub backed : Backed w.opinion w.state.visits
      pub denied : Denied w.opinion w.state.visits

    none_new : (visits : List Visit) (w : Walked (PassState State)) → w.state.visits ≡ visits → Backed w.opinion visits → Denied w.opinion visits → Due visits w
    none_new visits w same backed denied = record {
      news = [];
      adds = same ∙ sym (append-nil visits);
      backed = λ e. granted_still kind acts visits [] w.state.visits (same ∙ sym (append-nil visits)) (backed e);
      denied = λ e. denied (sym (ap (doomed acts false) same) ∙ e);
    }

    later : (visits more new : List Visit) (w : Walked (PassState State)) → new ≡ visits ++ more → Due new w → Due visits w
    later visits more new w is d = record {
      news = more ++ d.news;
      adds = d.adds ∙ ap (λ (xs : List Visit). xs ++ d.news) is ∙ append_assoc visits more d.news;
      backed = d.backed;
      denied = d.denied;
    }

    onward_due : (next : Next) (f : ℕ → Walked (PassState State)) (w : Walked (PassState State)) (visits : List Visit) → ((n : ℕ) → Due visits (f n))
        → Due visits w → Due visits (onward next f w)
    onward_due (after n) f w visits each here = each n
    onward_due stop f w visits each here = here

    if_due : (b : Bool) (x y : Walked (PassState State)) (visits : List Visit) → (b ≡ true → Due visits x) → (b ≡ false → Due visits y)
        → Due visits (if b then x else y)
    if_due true x y visits one two = one refl
    if_due false x y visits one two = two refl

    due : (t : Stack) (n at : ℕ) (entry o : Opinion) (g : PassState State) (pre post : List (List Action)) → controls all ≡ pre ++ (controls t ++ post)
        → at ≡ length pre + 1
        → Backed entry g.visits → Backed o g.visits → Denied o g.visits → Due g.visits (walk kind (serving kind kept answering) n t at entry o g)
    due none n at entry o g pre post is there first backed denied = none_new g.visits (walked o g) refl backed denied
    due (line rule t) (suc n) at entry o g pre post is there first backed denied =
        due t n (at + 1) entry o g (pre ++ rule.control ∷ []) post (is ∙ sym (append_assoc pre (rule.control ∷ []) (controls t ++ post)))
        (let l = length-append pre (rule.control ∷ []) in omega (arith, there, l)) first backed denied
    due (sub inner t) (suc n) at entry o g pre post is there first backed denied =
        due t n (at + lines_in inner) entry o g (pre ++ controls inner) post
        (is ∙ ap (λ (xs : List (List Action)). pre ++ xs) (append_assoc (controls inner) (controls t) post)
        ∙ sym (append_assoc pre (controls inner) (controls t ++ post)))
        (let l = length-append pre (controls inner) in let k = controls-count inner in omega (arith, there, l, k)) first backed denied
    due (line rule t) zero at entry o g pre post is there first backed denied =
        let left : ℕ = count t in
        let v : Served (PassState State) = serving kind kept answering rule at g in
        let a : Action = action_at rule.control v.deciding in
        let new : Opinion = acted kind a v.answer v.deciding entry o in
        let last : Opinion = new_or_overrun a left new in
        let added = line_adds answering rule at g.past g.visits g.state in
        let this : Visit = visit at v.answer in
        let is_action : acts this ≡ a =
        ap (λ (c : List Action). action_at c (decides kind kept at v.answer)) (control_here all pre (controls t ++ post) rule.control at is there)
        ∙ ap (action_at rule.control) (sym added.decided) in
        if_due v.stopped (halted o v.state) (onward (next_of a left new) (λ n. walk kind (serving kind kept answering) n t (at + 1) entry last v.state)
        (walked last v.state)) g.visits
        (λ stops. none_new g.visits (halted o v.state) (added.stays stops) backed denied)
        (λ goes.
        let grown : v.state.visits ≡ g.visits ++ this ∷ [] = added.adds goes in
        let first' : Backed entry v.state.visits = λ e. granted_still kind acts g.visits (this ∷ []) v.state.visits grown (first e) in
        let before' : Backed o v.state.visits = λ e. granted_still kind acts g.visits (this ∷ []) v.state.visits grown (backed e) in
        let here : v.answer ≡ codes.Success → grants kind a ≡ true → Granted kind acts v.state.visits = λ e f. record {
          before = g.visits;
          place = at;
          after = [];
          split = grown ∙ ap (λ (c : Code). g.visits ++ visit at c ∷ []) e;
          counts = ap (λ (c : Code). grants kind (acts (visit at c))) (sym e) ∙ ap (grants kind) is_action ∙ f;
        } in
        let backed' : Backed last v.state.visits = settled_from (Granted kind acts v.state.visits) kind a left v.answer v.deciding entry o before'
        first' here in
        let denied' : Denied last v.state.visits = λ e. settled_doomed kind a left v.answer v.deciding entry o (doomed acts false g.visits) denied
        (ap (λ (x : Action). doomed_by x (doomed acts false g.visits)) (sym is_action) ∙ sym (doomed-append acts false g.visits (this ∷ []))
        ∙ sym (ap (doomed acts false) grown) ∙ e) in
        later g.visits (this ∷ []) v.state.visits _ grown
        (onward_due (next_of a left new) (λ n. walk kind (serving kind kept answering) n t (at + 1) entry last v.state) (walked last v.state) v.state.visits
        (λ n. due t n (at + 1) entry last v.state (pre ++ rule.control ∷ []) post (is ∙ sym (append_assoc pre (rule.control ∷ []) (controls t ++ post)))
        (let l = length-append pre (rule.control ∷ []) in omega (arith, there, l)) first' backed' denied')
        (none_new v.state.visits (walked last v.state) refl backed' denied')))
    due (sub inner t) zero at entry o g pre post is there first backed denied =
        let inside : Walked (PassState State) = walk kind (serving kind kept answering) zero inner at o o g in
        let split : controls all ≡ pre ++ (controls inner ++ (controls t ++ post)) = is
        ∙ ap (λ (xs : List (List Action)). pre ++ xs) (append_assoc (controls inner) (controls t) post) in
        let d : Due g.visits inside = due inner zero at o o g pre (controls t ++ post) split there backed backed denied in
        if_due inside.stopped inside (walk kind (serving kind kept answering) zero t (at + lines_in inner) entry inside.opinion inside.state) g.visits
        (λ e. d)
        (λ e. later g.visits d.news inside.state.visits _ d.adds
        (due t zero (at + lines_in inner) entry inside.opinion inside.state (pre ++ controls inner) post
        (split ∙ sym (append_assoc pre (controls inner) (controls t ++ post)))
        (let l = length-append pre (controls inner) in let k = controls-count inner in omega (arith, there, l, k))
        (λ e. granted_still kind acts g.visits d.news inside.state.visits d.adds (first e)) d.backed d.denied))

    pub pass_due : (past : List Code) (s : State) → Due [] (pass_after kind kept answering all past s)
    pass_due past s = due all 0 1 opening opening (pass_state past [] s) [] [] (sym (append-nil (controls all))) refl (λ e. absurd cc) (λ e. absurd cc)
        (λ e. absurd (true≢false (sym e)))

-- ---- the laws

pub ended : {A : Type 0} (w : Walked A) (b : Bool) (o : Opinion) → (if b then codes.Incomplete else verdict o) ≡ codes.Success → verdict o ≡ codes.Success
ended w true o e = absurd cc
ended w false o e = e

pub success_needs_a_line : (State : Type 0) → SuccessNeedsALine State
success_needs_a_line State kind kept answering stack past s e =
    let w = pass_after kind kept answering stack past s in
    (pass_due State kind kept answering stack past s).backed (ended w w.stopped w.opinion e)

pub failed_line_denies : (State : Type 0) → FailedLineDenies State
failed_line_denies State kind kept answering stack past s before more v split denied calm e =
    let w = pass_after kind kept answering stack past s in
    let acts = action_of kind kept stack in
    negative_denies w.opinion.impression w.opinion.status
    ((pass_due State kind kept answering stack past s).denied (ap (doomed acts false) split ∙ doomed_there acts before more v denied calm))
    (ended w w.stopped w.opinion e)

required_denies : (code : Code) → is_failure code ≡ true → denies (action_at required code) ≡ true
required_denies codes.Success e = absurd (true≢false (sym e))
required_denies codes.NewAuthtokReqd e = absurd (true≢false (sym e))
required_denies codes.Ignore e = absurd (true≢false (sym e))
required_denies code e = refl

requisite_denies : (code : Code) → is_failure code ≡ true → denies (action_at requisite code) ≡ true
requisite_denies codes.Success e = absurd (true≢false (sym e))
requisite_denies codes.NewAuthtokReqd e = absurd (true≢false (sym e))
requisite_denies codes.Ignore e = absurd (true≢false (sym e))
requisite_denies code e = refl

either_denies : (control : List Action) (code : Code) → (control ≡ required) ⊎ (control ≡ requisite) → is_failure code ≡ true
    → denies (action_at control code) ≡ true
either_denies control code (inl is) e = ap (λ (c : List Action). denies (action_at c code)) is ∙ required_denies code e
either_denies control code (inr is) e = ap (λ (c : List Action). denies (action_at c code)) is ∙ requisite_denies code e

pub failed_required_denies : (State : Type 0) → FailedRequiredDenies State
failed_required_denies State kind kept answering stack past s before more v split control failed calm =
    failed_line_denies State kind kept answering stack past s before more v split
    (either_denies (control_of stack v.place) (deciding_of kind kept v) control failed) calm
