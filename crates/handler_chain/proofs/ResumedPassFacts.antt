-- An incomplete pass is resumed where it was.
use Rattle.std.proofs.Common.{◌≡◌, ℕ, zero, suc, ◌+◌, Bool, true, false, true≢false, if◌then◌else◌, List, [], ◌∷◌, ◌++◌, refl, sym, ◌∙◌, ap, subst, append_assoc, append-nil}
use Rattle.std.proofs.lemmas.List.{append_cancel_left}
use Rattle.pam_base.specs.declared.code.Code.{Code}
use Rattle.control_words.specs.declared.nodes.Rule.{Rule}
use Rattle.control_words.specs.Control.{action_at}
use Rattle.control_words.specs.Stack.{Stack, none, line, sub, count, lines_in}
use Rattle.handler_chain.specs.declared.opinion.Opinion.{Opinion}
use Rattle.handler_chain.specs.declared.pass_kind.PassKind.{PassKind}
use Rattle.handler_chain.specs.Opinion.{acted, opening}
use Rattle.handler_chain.specs.Walk.{Served, Walked, walked, halted, Next, after, stop, next_of, new_or_overrun, onward, walk}
use Rattle.handler_chain.specs.Route.{KeptAnswers}
use Rattle.handler_chain.specs.Pass.{Visit, Answering, visit, PassState, pass_state, answers_of, decides, served_past, serving, pass_after}
use Rattle.handler_chain.specs.PathLaw.{GoesOn}
use Rattle.handler_chain.proofs.CachedRouteFacts.{state_if, state_onward, walk_keeps}
use Rattle.handler_chain.proofs.ServedLineFacts.{visited, unvisited}

-- lines that were run, and more after them
abbrev Grown : List Visit → List Visit → Type 0
Grown vs ws = (more : List Visit) × (ws ≡ vs ++ more)

grown_same : (vs ws : List Visit) → ws ≡ vs → Grown vs ws
grown_same vs ws is = ([], is ∙ sym (append-nil vs))

abbrev grown_by : (vs ws xs : List Visit) → Grown vs ws → Grown ws xs → Grown vs xs
grown_by vs ws xs one two = (one.0 ++ two.0, two.1 ∙ ap (λ (zs : List Visit). zs ++ two.0) one.1 ∙ append_assoc vs one.0 two.0)

answers-append : (vs ws : List Visit) (rest : List Code) → answers_of (vs ++ ws) ++ rest ≡ answers_of vs ++ (answers_of ws ++ rest)
answers-append [] ws rest = refl
answers-append (v ∷ vs) ws rest = ap (λ (cs : List Code). v.answer ∷ cs) (answers-append vs ws rest)

module _ (State : Type 0) (kind : PassKind) (kept : KeptAnswers) where
  abbrev walk_by : Answering State → ℕ → Stack → ℕ → Opinion → Opinion → PassState State → Walked (PassState State)
  walk_by answering = walk kind (serving kind kept answering)

  line_grows : (answering : Answering State) (rule : Rule) (at : ℕ) (g : PassState State) (b : Bool)
      → (serving kind kept answering rule at g).stopped ≡ b → Grown g.visits (serving kind kept answering rule at g).state.visits
  line_grows answering rule at g true is = grown_same _ _ (unvisited State kind kept answering rule at g.past g.visits g.state is)
  line_grows answering rule at g false is = (visit at (serving kind kept answering rule at g).answer ∷ [], visited State kind kept answering rule at g.past g.visits g.state is)

  grows : (answering : Answering State) (t : Stack) (n at : ℕ) (entry o : Opinion) (g : PassState State)
      → Grown g.visits (walk_by answering n t at entry o g).state.visits
  grows answering t n at entry o g =
      walk_keeps (PassState State) kind (serving kind kept answering) (λ (at : ℕ) (x : PassState State). Grown g.visits x.visits)
      (λ rule at x grown. grown_by g.visits x.visits _ grown (line_grows answering rule at x _ refl)) (λ at later x le grown. grown) t n at entry o g (grown_same _ _ refl)

  -- a second walk, whose earlier codes are those of the first one and then others
  record Again (w second : Walked (PassState State)) (rest : List Code) (s : State) : Type 0 where
    ended : w.stopped ≡ false → second ≡ walked w.opinion (pass_state rest w.state.visits s)
    put_off : w.stopped ≡ true → Grown w.state.visits second.state.visits

  again_next : (next : Next) (f f' : ℕ → Walked (PassState State)) (w w' : Walked (PassState State)) (all : List Visit) (rest : List Code) (s : State)
      → ((n : ℕ) → (f n).state.visits ≡ all → Again (f n) (f' n) rest s) → (w.state.visits ≡ all → Again w w' rest s)
      → (onward next f w).state.visits ≡ all → Again (onward next f w) (onward next f' w') rest s
  again_next (after n) f f' w w' all rest s each here is = each n is
  again_next stop f f' w w' all rest s each here is = here is

  again_if : (b : Bool) (o : Opinion) (g : PassState State) (w second : Walked (PassState State)) (all : List Visit) (rest : List Code) (s : State)
      → (b ≡ true → Grown g.visits second.state.visits) → (b ≡ false → w.state.visits ≡ all → Again w second rest s)
      → (if b then halted o g else w).state.visits ≡ all → Again (if b then halted o g else w) second rest s
  again_if true o g w second all rest s off on is = record { ended = λ e. absurd (true≢false e); put_off = λ e. off refl }
  again_if false o g w second all rest s off on is = on refl is

  again_sub : (b : Bool) (inside inside' w : Walked (PassState State)) (f : Walked (PassState State) → Walked (PassState State)) (all : List Visit) (rest : List Code) (s : State)
      → inside.stopped ≡ b → ((x : Walked (PassState State)) → Grown x.state.visits (f x).state.visits)
      → (b ≡ true → inside.state.visits ≡ all → Again inside inside' rest s)
      → (b ≡ false → w.state.visits ≡ all → Again w (if inside'.stopped then inside' else f inside') rest s)
      → (if b then inside else w).state.visits ≡ all → Again (if b then inside else w) (if inside'.stopped then inside' else f inside') rest s
  again_sub true inside inside' w f all rest s stops grow off on is = record {
    ended = λ e. absurd (true≢false (sym stops ∙ e));
    put_off = λ e.
        let one : Grown inside.state.visits inside'.state.visits = (off refl is).put_off e in
        state_if (PassState State) inside'.stopped inside' (f inside') (λ (x : PassState State). Grown inside.state.visits x.visits) one (grown_by _ _ _ one (grow inside'));
  }
  again_sub false inside inside' w f all rest s stops grow off on is = on refl is

  decides_at : (answering : Answering State) (rule : Rule) (at : ℕ) (past : List Code) (vs : List Visit) (s : State)
      → (served_past kind kept answering rule at past vs s).deciding ≡ decides kind kept at (served_past kind kept answering rule at past vs s).answer
  decides_at answering rule at [] vs s = refl
  decides_at answering rule at (p ∷ past) vs s = refl

  again : (answering later : Answering State) (t : Stack) (n at : ℕ) (entry o : Opinion) (g : PassState State) (news : List Visit) (rest : List Code) (s : State)
      → (walk_by answering n t at entry o g).state.visits ≡ g.visits ++ news
      → Again (walk_by answering n t at entry o g) (walk_by later n t at entry o (pass_state (answers_of news ++ rest) g.visits s)) rest s
  again answering later none n at entry o g news rest s is =
      let nothing : [] ≡ news = append_cancel_left g.visits [] news (append-nil g.visits ∙ is) in
      record {
        ended = λ e. ap (λ (vs : List Visit). walked o (pass_state (answers_of vs ++ rest) g.visits s)) (sym nothing);
        put_off = λ e. absurd (true≢false (sym e));
      }
  again answering later (line rule t) (suc n) at entry o g news rest s is = again answering later t n (at + 1) entry o g news rest s is
  again answering later (sub inner t) (suc n) at entry o g news rest s is = again answering later t n (at + lines_in inner) entry o g news rest s is
  again answering later (line rule t) zero at entry o g news rest s is =
      let v : Served (PassState State) = serving kind kept answering rule at g in
      let left : ℕ = count t in
      let new : Code → Opinion = λ k. acted kind (action_at rule.control k) v.answer k entry o in
      let last : Code → Opinion = λ k. new_or_overrun (action_at rule.control k) left (new k) in
      let the_rest : Answering State → Code → PassState State → Walked (PassState State) = λ r k x.
      onward (next_of (action_at rule.control k) left (new k)) (λ n. walk_by r n t (at + 1) entry (last k) x) (walked (last k) x) in
      again_if v.stopped o v.state (the_rest answering v.deciding v.state) (walk_by later zero (line rule t) at entry o (pass_state (answers_of news ++ rest) g.visits s)) (g.visits ++ news) rest s
      (λ stops. subst (λ (vs : List Visit). Grown vs (walk_by later zero (line rule t) at entry o (pass_state (answers_of news ++ rest) g.visits s)).state.visits)
      (sym (unvisited State kind kept answering rule at g.past g.visits g.state stops)) (grows later (line rule t) zero at entry o (pass_state (answers_of news ++ rest) g.visits s)))
      (λ runs all.
      let one : v.state.visits ≡ g.visits ++ visit at v.answer ∷ [] = visited State kind kept answering rule at g.past g.visits g.state runs in
      let more : Grown v.state.visits (the_rest answering v.deciding v.state).state.visits =
      state_onward (PassState State) (next_of (action_at rule.control v.deciding) left (new v.deciding)) _ _ (λ (x : PassState State). Grown v.state.visits x.visits)
      (λ n. grows answering t n (at + 1) entry (last v.deciding) v.state) (grown_same _ _ refl) in
      let split : visit at v.answer ∷ more.0 ≡ news =
      append_cancel_left g.visits (visit at v.answer ∷ more.0) news (sym (append_assoc g.visits (visit at v.answer ∷ []) more.0) ∙ ap (λ (vs : List Visit). vs ++ more.0) (sym one) ∙ sym more.1 ∙ all) in
      let d : Code = decides kind kept at v.answer in
      let same : v.deciding ≡ d = decides_at answering rule at g.past g.visits g.state in
      let goes : Again (the_rest answering v.deciding v.state) (the_rest later v.deciding (pass_state (answers_of more.0 ++ rest) v.state.visits s)) rest s =
      again_next (next_of (action_at rule.control v.deciding) left (new v.deciding)) _ _ _ _ (v.state.visits ++ more.0) rest s
      (λ n is'. again answering later t n (at + 1) entry (last v.deciding) v.state more.0 rest s is')
      (λ is'.
      let nothing : [] ≡ more.0 = append_cancel_left v.state.visits [] more.0 (append-nil v.state.visits ∙ is') in
      record {
        ended = λ e. ap (λ (vs : List Visit). walked (last v.deciding) (pass_state (answers_of vs ++ rest) v.state.visits s)) (sym nothing);
        put_off = λ e. absurd (true≢false (sym e));
      })
      more.1 in
      subst (λ (vs : List Visit). Again (the_rest answering v.deciding v.state) (walk_by later zero (line rule t) at entry o (pass_state (answers_of vs ++ rest) g.visits s)) rest s) split
      (subst (λ (vs : List Visit). Again (the_rest answering v.deciding v.state) (the_rest later d (pass_state (answers_of more.0 ++ rest) vs s)) rest s) one
      (subst (λ (k : Code). Again (the_rest answering v.deciding v.state) (the_rest later k (pass_state (answers_of more.0 ++ rest) v.state.visits s)) rest s) same goes)))
      is
  again answering later (sub inner t) zero at entry o g news rest s is =
      let inside : Walked (PassState State) = walk_by answering zero inner at o o g in
      let on : Answering State → Walked (PassState State) → Walked (PassState State) = λ r x. walk_by r zero t (at + lines_in inner) entry x.opinion x.state in
      let inside' : Walked (PassState State) = walk_by later zero inner at o o (pass_state (answers_of news ++ rest) g.visits s) in
      again_sub inside.stopped inside inside' (on answering inside) (on later) (g.visits ++ news) rest s refl
      (λ x. grows later t zero (at + lines_in inner) entry x.opinion x.state)
      (λ stops is'. again answering later inner zero at o o g news rest s is')
      (λ runs is'.
      let one : Grown g.visits inside.state.visits = grows answering inner zero at o o g in
      let two : Grown inside.state.visits (on answering inside).state.visits = grows answering t zero (at + lines_in inner) entry inside.opinion inside.state in
      let split : one.0 ++ two.0 ≡ news = append_cancel_left g.visits (one.0 ++ two.0) news (sym (grown_by _ _ _ one two).1 ∙ is') in
      let past : answers_of news ++ rest ≡ answers_of one.0 ++ (answers_of two.0 ++ rest) = ap (λ (vs : List Visit). answers_of vs ++ rest) (sym split) ∙ answers-append one.0 two.0 rest in
      let first : walk_by later zero inner at o o (pass_state (answers_of one.0 ++ (answers_of two.0 ++ rest)) g.visits s) ≡ walked inside.opinion (pass_state (answers_of two.0 ++ rest) inside.state.visits s) =
      (again answering later inner zero at o o g one.0 (answers_of two.0 ++ rest) s one.1).ended runs in
      let there : walked inside.opinion (pass_state (answers_of two.0 ++ rest) inside.state.visits s) ≡ inside' = sym first ∙ ap (λ (cs : List Code). walk_by later zero inner at o o (pass_state cs g.visits s)) (sym past) in
      subst (λ (x : Walked (PassState State)). Again (on answering inside) (if x.stopped then x else on later x) rest s) there
      (again answering later t zero (at + lines_in inner) entry inside.opinion inside.state two.0 rest s two.1))
      is

pub goes_on : (State : Type 0) → GoesOn State
goes_on State kind kept answering later_answering stack past s later = λ stops.
    let w : Walked (PassState State) = pass_after kind kept answering stack past s in
    subst (λ (cs : List Code). Grown w.state.visits (pass_after kind kept later_answering stack cs later).state.visits) (append-nil (answers_of w.state.visits))
    ((again State kind kept answering later_answering stack 0 1 opening opening (pass_state past [] s) w.state.visits [] later refl).put_off stops)
