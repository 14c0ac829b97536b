-- A walk in which a code that counts and isn't SUCCESS denies.
use Rattle.std.proofs.Common.{◌≡◌, ℕ, zero, suc, ◌+◌, Bool, true, false, true≢false, if◌then◌else◌, List, [], ◌∷◌, ◌++◌, length}
use Rattle.std.proofs.Common.{length-append, refl, sym, ◌∙◌, ap, append_assoc, append-nil, arith}
use Rattle.pam_base.specs.declared.code.Code.{Code}
use Rattle.control_words.specs.declared.control.Action.{Action}
use Rattle.control_words.specs.Control.{action_at}
use Rattle.control_words.specs.Stack.{Stack, none, line, sub, count, lines_in}
use Rattle.handler_chain.specs.declared.opinion.Opinion.{Opinion}
use Rattle.handler_chain.specs.declared.pass_kind.PassKind.{PassKind}
use Rattle.handler_chain.specs.Opinion.{acted, opening}
use Rattle.handler_chain.specs.Walk.{Next, Served, Walked, after, halted, next_of, new_or_overrun, onward, stop, walk, walked}
use Rattle.handler_chain.specs.Route.{KeptAnswers}
use Rattle.handler_chain.specs.Pass.{Answering, PassState, Visit, decides, pass_after, pass_state, serving, visit}
use Rattle.laws_stack.specs.Counted.{CountedFailureDenies, is_other}
use Rattle.laws_stack.specs.Deeds.{action_of, controls, grants, resets}
use Rattle.laws_stack.specs.Success.{NoneResets}
use Rattle.laws_stack.proofs.DecisiveLineFacts.{control_here, controls-count, ended, line_adds, no_first, no_second}
use Rattle.laws_stack.proofs.FailedStateFacts.{settled_spoiled, spoiled, spoiled_by, spoiled_denies, spoiled_stays, spoils_now}
use Rattle.std.specs.List.{list_any}

-- ---- lines that were run

module _ (kind : PassKind) (acts : Visit → Action) where
  -- whether one spoiled the run since the last reset
  abbrev pub spoilt : Bool → List Visit → Bool
  spoilt now [] = now
  spoilt now (v ∷ vs) = spoilt (spoiled_by kind (acts v) v.answer now) vs

  pub spoilt-append : (now : Bool) (vs ws : List Visit) → spoilt now (vs ++ ws) ≡ spoilt (spoilt now vs) ws
  spoilt-append now [] ws = refl
  spoilt-append now (v ∷ vs) ws = spoilt-append (spoiled_by kind (acts v) v.answer now) vs ws

  still_spoilt : (vs : List Visit) → NoneResets acts vs → spoilt true vs ≡ true
  still_spoilt [] calm = refl
  still_spoilt (v ∷ vs) calm =
      ap (λ (b : Bool). spoilt b vs) (spoiled_stays kind (acts v) v.answer (no_first (resets (acts v)) (list_any (λ v. resets (acts v)) vs) calm))
      ∙ still_spoilt vs (no_second (resets (acts v)) (list_any (λ v. resets (acts v)) vs) calm)

  pub spoilt_there : (before more : List Visit) (v : Visit) → grants kind (acts v) ≡ true → is_other v.answer ≡ true → NoneResets acts more
      → spoilt false (before ++ v ∷ more) ≡ true
  spoilt_there before more v counts is calm =
      spoilt-append false before (v ∷ more)
      ∙ ap (λ (b : Bool). spoilt b more) (spoils_now kind (acts v) v.answer (spoilt false before) counts is)
      ∙ still_spoilt more calm

-- ---- a walk

module _ (State : Type 0) (kind : PassKind) (kept : KeptAnswers) (answering : Answering State) (all : Stack) where
  abbrev marked : List Visit → Bool
  marked visits = spoilt kind (action_of kind kept all) false visits

  abbrev pub Spoils : Opinion → List Visit → Type 0
  Spoils o visits = marked visits ≡ true → spoiled o ≡ true

  pub record Told (visits : List Visit) (w : Walked (PassState State)) : Type 0 where
    pub news : List Visit
    pub adds : w.state.visits ≡ visits ++ news
    pub spoils : Spoils w.opinion w.state.visits

  none_new : (visits : List Visit) (w : Walked (PassState State)) → w.state.visits ≡ visits → Spoils w.opinion visits → Told visits w
  none_new visits w same spoils = record {
    news = [];
    adds = same ∙ sym (append-nil visits);
    spoils = λ e. spoils (sym (ap marked same) ∙ e);
  }

  later : (visits more new : List Visit) (w : Walked (PassState State)) → new ≡ visits ++ more → Told new w → Told visits w
  later visits more new w is d = record {
    news = more ++ d.news;
    adds = d.adds ∙ ap (λ (xs : List Visit). xs ++ d.news) is ∙ append_assoc visits more d.news;
    spoils = d.spoils;
  }

  onward_told : (next : Next) (f : ℕ → Walked (PassState State)) (w : Walked (PassState State)) (visits : List Visit) → ((n : ℕ) → Told visits (f n))
      → Told visits w → Told visits (onward next f w)
  onward_told (after n) f w visits each here = each n
  onward_told stop f w visits each here = here

  if_told : (b : Bool) (x y : Walked (PassState State)) (visits : List Visit) → (b ≡ true → Told visits x) → (b ≡ false → Told visits y)
      → Told visits (if b then x else y)
  if_told true x y visits one two = one refl
  if_told false x y visits one two = two refl

  told : (t : Stack) (n at : ℕ) (entry o : Opinion) (g : PassState State) (pre post : List (List Action)) → controls all ≡ pre ++ (controls t ++ post)
      → at ≡ length pre + 1
      → Spoils o g.visits → Told g.visits (walk kind (serving kind kept answering) n t at entry o g)
  told none n at entry o g pre post is there spoils = none_new g.visits (walked o g) refl spoils
  told (line rule t) (suc n) at entry o g pre post is there spoils =
      told t n (at + 1) entry o g (pre ++ rule.control ∷ []) post (is ∙ sym (append_assoc pre (rule.control ∷ []) (controls t ++ post)))
      (let l = length-append pre (rule.control ∷ []) in omega (arith, there, l)) spoils
  told (sub inner t) (suc n) at entry o g pre post is there spoils =
      told t n (at + lines_in inner) entry o g (pre ++ controls inner) post
      (is ∙ ap (λ (xs : List (List Action)). pre ++ xs) (append_assoc (controls inner) (controls t) post)
      ∙ sym (append_assoc pre (controls inner) (controls t ++ post)))
      (let l = length-append pre (controls inner) in let k = controls-count inner in omega (arith, there, l, k)) spoils
  told (line rule t) zero at entry o g pre post is there spoils =
      let left : ℕ = count t in
      let v : Served (PassState State) = serving kind kept answering rule at g in
      let a : Action = action_at rule.control v.deciding in
      let new : Opinion = acted kind a v.answer v.deciding entry o in
      let last : Opinion = new_or_overrun a left new in
      let added = line_adds State kind kept answering rule at g.past g.visits g.state in
      let this : Visit = visit at v.answer in
      let is_action : action_of kind kept all this ≡ a =
      ap (λ (c : List Action). action_at c (decides kind kept at v.answer)) (control_here all pre (controls t ++ post) rule.control at is there)
      ∙ ap (action_at rule.control) (sym added.decided) in
      if_told v.stopped (halted o v.state) (onward (next_of a left new) (λ n. walk kind (serving kind kept answering) n t (at + 1) entry last v.state)
      (walked last v.state)) g.visits
      (λ stops. none_new g.visits (halted o v.state) (added.stays stops) spoils)
      (λ goes.
      let grown : v.state.visits ≡ g.visits ++ this ∷ [] = added.adds goes in
      let spoils' : Spoils last v.state.visits = λ e. settled_spoiled kind a left v.answer v.deciding entry o (marked g.visits) spoils
      (ap (λ (x : Action). spoiled_by kind x v.answer (marked g.visits)) (sym is_action)
      ∙ sym (spoilt-append kind (action_of kind kept all) false g.visits (this ∷ []))
      ∙ sym (ap marked grown) ∙ e) in
      later g.visits (this ∷ []) v.state.visits _ grown
      (onward_told (next_of a left new) (λ n. walk kind (serving kind kept answering) n t (at + 1) entry last v.state) (walked last v.state) v.state.visits
      (λ n. told t n (at + 1) entry last v.state (pre ++ rule.control ∷ []) post (is ∙ sym (append_assoc pre (rule.control ∷ []) (controls t ++ post)))
      (let l = length-append pre (rule.control ∷ []) in omega (arith, there, l)) spoils')
      (none_new v.state.visits (walked last v.state) refl spoils')))
  told (sub inner t) zero at entry o g pre post is there spoils =
      let inside : Walked (PassState State) = walk kind (serving kind kept answering) zero inner at o o g in
      let split : controls all ≡ pre ++ (controls inner ++ (controls t ++ post)) = is
      ∙ ap (λ (xs : List (List Action)). pre ++ xs) (append_assoc (controls inner) (controls t) post) in
      let d : Told g.visits inside = told inner zero at o o g pre (controls t ++ post) split there spoils in
      if_told inside.stopped inside (walk kind (serving kind kept answering) zero t (at + lines_in inner) entry inside.opinion inside.state) g.visits
      (λ e. d)
      (λ e. later g.visits d.news inside.state.visits _ d.adds
      (told t zero (at + lines_in inner) entry inside.opinion inside.state (pre ++ controls inner) post
      (split ∙ sym (append_assoc pre (controls inner) (controls t ++ post)))
      (let l = length-append pre (controls inner) in let k = controls-count inner in omega (arith, there, l, k)) d.spoils))

  pub pass_told : (past : List Code) (s : State) → Told [] (pass_after kind kept answering all past s)
  pass_told past s = told all 0 1 opening opening (pass_state past [] s) [] [] (sym (append-nil (controls all))) refl (λ e. absurd (true≢false (sym e)))

pub counted_failure_denies : (State : Type 0) → CountedFailureDenies State
counted_failure_denies State kind kept answering stack past s before more v split counts is calm e =
    let w = pass_after kind kept answering stack past s in
    let acts = action_of kind kept stack in
    spoiled_denies w.opinion.impression w.opinion.status
    ((pass_told State kind kept answering stack past s).spoils (ap (spoilt kind acts false) split ∙ spoilt_there kind acts before more v counts is calm))
    (ended w w.stopped w.opinion e)
