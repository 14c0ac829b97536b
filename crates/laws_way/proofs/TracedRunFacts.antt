-- A run whose lines return what a trace has for them runs the lines that it takes of it, once it has ended.
use Rattle.std.proofs.Common.{◌≡◌, ◌⊎◌, inl, inr, ℕ, zero, suc, ◌+◌, Bool, true, false, true≢false, nat_eq, eqb-true, if◌then◌else◌, List}
use Rattle.std.proofs.Common.{[], ◌∷◌, ◌++◌, refl, sym, ◌∙◌, ap, subst, append_assoc, append-nil}
use Rattle.std.proofs.lemmas.Bool.{and_parts}
use Rattle.std.specs.Str.{bytes_eq}
use Rattle.pam_base.specs.declared.code.Code.{Code}
use Rattle.control_words.specs.declared.control.Action.{Action}
use Rattle.control_words.specs.declared.nodes.Rule.{Rule}
use Rattle.control_words.specs.Control.{action_at}
use Rattle.control_words.specs.Module.{name_of_module}
use Rattle.control_words.specs.Stack.{Stack, none, line, sub, count, lines_in}
use Rattle.pam_room.specs.declared.visits.Visit.{Visit as Visited}
use Rattle.handler_chain.specs.declared.opinion.Opinion.{Opinion}
use Rattle.handler_chain.specs.declared.pass_kind.PassKind.{PassKind}
use Rattle.handler_chain.specs.Opinion.{acted, opening}
use Rattle.handler_chain.specs.Pass.{Answered, PassState, Visit, answers_of, is_incomplete, pass_after, pass_state, served_past, serving, visit}
use Rattle.handler_chain.specs.Retell.{RecordedLine, Telling, answer_told, is_of, replaying, strays, telling}
use Rattle.handler_chain.specs.Route.{KeptAnswers}
use Rattle.handler_chain.specs.Walk.{Next, Served, Walked, after, halted, new_or_overrun, next_of, onward, stop, walk, walked}
use Rattle.dispatch_core.specs.Failing.{visits_in}
use Rattle.dispatch_core.specs.Trail.{seen_in}

-- recorded lines, as those of a walk
abbrev pub lines_of : List RecordedLine → List Visit
lines_of [] = []
lines_of (v ∷ vs) = visit v.place v.answer ∷ lines_of vs

pub lines_of-seen : (more : List Visited) → lines_of (seen_in more) ≡ visits_in more
lines_of-seen [] = refl
lines_of-seen (v ∷ vs) = ap (λ (xs : List Visit). visit v.place v.answer ∷ xs) (lines_of-seen vs)

-- A run went on: first by codes of earlier calls, then by lines of the trace. The lines that it ran
-- are those that it took.
pub record Moves (p q : PassState Telling) : Type 0 where
  pub early : List Visit
  pub news : List Visit
  pub past : p.past ≡ answers_of early ++ q.past
  pub told : lines_of p.state.left ≡ news ++ lines_of q.state.left
  pub visits : q.visits ≡ p.visits ++ (early ++ news)
  pub order : (news ≡ []) ⊎ (q.past ≡ [])

nothing_moves : (p : PassState Telling) → Moves p p
nothing_moves p = record { early = []; news = []; past = refl; told = refl; visits = sym (append-nil p.visits); order = inl refl }

answers-append : (one two : List Visit) → answers_of (one ++ two) ≡ answers_of one ++ answers_of two
answers-append [] two = refl
answers-append (v ∷ one) two = ap (λ (cs : List Code). v.answer ∷ cs) (answers-append one two)

no_visits : (visits : List Visit) (rest : List Code) → [] ≡ answers_of visits ++ rest → visits ≡ []
no_visits [] rest is = refl
no_visits (v ∷ visits) rest is = absurd cc

no_rest : (visits : List Visit) (rest : List Code) → [] ≡ answers_of visits ++ rest → rest ≡ []
no_rest [] rest is = sym is
no_rest (v ∷ visits) rest is = absurd cc

-- no code of an earlier call is taken after a line of the trace
in_order : (visits early news next later : List Visit) → (news ≡ []) ⊎ (next ≡ [])
    → (visits ++ (early ++ news)) ++ (next ++ later) ≡ visits ++ ((early ++ next) ++ (news ++ later))
in_order visits early news next later (inl is) =
    ap (λ (ns : List Visit). (visits ++ (early ++ ns)) ++ (next ++ later)) is
    ∙ ap (λ (es : List Visit). (visits ++ es) ++ (next ++ later)) (append-nil early)
    ∙ append_assoc visits early (next ++ later)
    ∙ ap (λ (es : List Visit). visits ++ es) (sym (append_assoc early next later))
    ∙ ap (λ (ns : List Visit). visits ++ ((early ++ next) ++ (ns ++ later))) (sym is)
in_order visits early news next later (inr is) =
    ap (λ (ns : List Visit). (visits ++ (early ++ news)) ++ (ns ++ later)) is
    ∙ append_assoc visits (early ++ news) later
    ∙ ap (λ (es : List Visit). visits ++ es) (append_assoc early news later)
    ∙ ap (λ (es : List Visit). visits ++ (es ++ (news ++ later))) (sym (append-nil early))
    ∙ ap (λ (ns : List Visit). visits ++ ((early ++ ns) ++ (news ++ later))) (sym is)

then_moves : (p q r : PassState Telling) → Moves p q → Moves q r → Moves p r
then_moves p q r one two = record {
  early = one.early ++ two.early;
  news = one.news ++ two.news;
  past = one.past ∙ ap (λ (cs : List Code). answers_of one.early ++ cs) two.past
      ∙ sym (append_assoc (answers_of one.early) (answers_of two.early) r.past)
      ∙ ap (λ (cs : List Code). cs ++ r.past) (sym (answers-append one.early two.early));
  told = one.told ∙ ap (λ (vs : List Visit). one.news ++ vs) two.told ∙ sym (append_assoc one.news two.news (lines_of r.state.left));
  visits = two.visits ∙ ap (λ (vs : List Visit). vs ++ (two.early ++ two.news)) one.visits
      ∙ in_order p.visits one.early one.news two.early two.news (elim one.order [
        | inl is ↦ inl is
        | inr is ↦ inr (no_visits two.early r.past (sym is ∙ two.past))
      ]);
  order = elim one.order [
    | inl is ↦ elim two.order [
      | inl nothing ↦ inl (ap (λ (vs : List Visit). vs ++ two.news) is ∙ nothing)
      | inr nothing ↦ inr nothing
    ]
    | inr is ↦ inr (no_rest two.early r.past (sym is ∙ two.past))
  ];
}

goes_if : (b : Bool) (x y : Walked (PassState Telling)) → (b ≡ true → x.stopped ≡ true) → (if b then x else y).stopped ≡ false → b ≡ false
goes_if true x y stops runs = absurd (true≢false (sym (stops refl) ∙ runs))
goes_if false x y stops runs = refl

is_second : (b : Bool) (x y : Walked (PassState Telling)) → b ≡ false → (if b then x else y) ≡ y
is_second true x y is = absurd (true≢false is)
is_second false x y is = refl

not_added : (b : Bool) (x y : List Visit) → b ≡ false → (if b then x else y) ≡ y
not_added true x y is = absurd (true≢false is)
not_added false x y is = refl

module _ (kind : PassKind) (kept : KeptAnswers) where
  abbrev Line : ℕ → Answered Telling → List RecordedLine → Type 0
  Line at a left = is_incomplete a.answer ≡ false → lines_of left ≡ visit at a.answer ∷ lines_of a.state.left

  next_told : (b : Bool) (rule : Rule) (at : ℕ) (v : RecordedLine) (vs : List RecordedLine) → is_of v rule at ≡ b
      → Line at (if b then record { answer = v.answer; state = telling vs } else strays (v ∷ vs)) (v ∷ vs)
  next_told false rule at v vs is = λ runs. absurd (true≢false runs)
  next_told true rule at v vs is = λ runs.
      let both = and_parts (nat_eq v.place at) (bytes_eq v.name (name_of_module rule.path)) is in
      ap (λ (n : ℕ). visit n v.answer ∷ lines_of vs) (eqb-true v.place at both.0)

  line_told : (left : List RecordedLine) (rule : Rule) (at : ℕ) → Line at (answer_told rule at left) left
  line_told [] rule at = λ runs. absurd (true≢false runs)
  line_told (v ∷ vs) rule at = next_told (is_of v rule at) rule at v vs refl

  line_moves : (past : List Code) (visits : List Visit) (t : Telling) (rule : Rule) (at : ℕ)
      → (served_past kind kept replaying rule at past visits t).stopped ≡ false
      → Moves (pass_state past visits t) (served_past kind kept replaying rule at past visits t).state
  line_moves (p ∷ past) visits t rule at runs =
      record { early = visit at p ∷ []; news = []; past = refl; told = refl; visits = refl; order = inl refl }
  line_moves [] visits t rule at runs =
      let a : Answered Telling = answer_told rule at t.left in
      record {
        early = [];
        news = visit at a.answer ∷ [];
        past = refl;
        told = line_told t.left rule at runs;
        visits = not_added (is_incomplete a.answer) visits (visits ++ visit at a.answer ∷ []) runs;
        order = inr refl;
      }

  onward_moves : (p : PassState Telling) (next : Next) (f : ℕ → Walked (PassState Telling)) (w : Walked (PassState Telling))
      → ((n : ℕ) → (f n).stopped ≡ false → Moves p (f n).state) → Moves p w.state → (onward next f w).stopped ≡ false
      → Moves p (onward next f w).state
  onward_moves p (after n) f w each here runs = each n runs
  onward_moves p stop f w each here runs = here

  abbrev goes : ℕ → Stack → ℕ → Opinion → Opinion → PassState Telling → Walked (PassState Telling)
  goes skip stack at entry o p = walk kind (serving kind kept replaying) skip stack at entry o p

  walk_moves : (skip : ℕ) (stack : Stack) (at : ℕ) (entry o : Opinion) (p : PassState Telling) → (goes skip stack at entry o p).stopped ≡ false
      → Moves p (goes skip stack at entry o p).state
  walk_moves skip none at entry o p runs = nothing_moves p
  walk_moves (suc skip) (line rule rest) at entry o p runs = walk_moves skip rest (at + 1) entry o p runs
  walk_moves (suc skip) (sub inner rest) at entry o p runs = walk_moves skip rest (at + lines_in inner) entry o p runs
  walk_moves zero (line rule rest) at entry o p runs =
      let v : Served (PassState Telling) = serving kind kept replaying rule at p in
      let a : Action = action_at rule.control v.deciding in
      let new : Opinion = acted kind a v.answer v.deciding entry o in
      let last : Opinion = new_or_overrun a (count rest) new in
      let rests : Walked (PassState Telling) =
      onward (next_of a (count rest) new) (λ n. goes n rest (at + 1) entry last v.state) (walked last v.state) in
      let here : v.stopped ≡ false = goes_if v.stopped (halted o v.state) rests (λ h. refl) runs in
      let is : (if v.stopped then halted o v.state else rests) ≡ rests = is_second v.stopped (halted o v.state) rests here in
      let one : Moves p v.state = line_moves p.past p.visits p.state rule at here in
      subst (λ (w : Walked (PassState Telling)). Moves p w.state) (sym is)
      (onward_moves p (next_of a (count rest) new) (λ n. goes n rest (at + 1) entry last v.state) (walked last v.state)
      (λ n runs'. then_moves p v.state _ one (walk_moves n rest (at + 1) entry last v.state runs')) one
      (sym (ap (λ (w : Walked (PassState Telling)). w.stopped) is) ∙ runs))
  walk_moves zero (sub inner rest) at entry o p runs =
      let inside : Walked (PassState Telling) = goes 0 inner at o o p in
      let rests : Walked (PassState Telling) = goes 0 rest (at + lines_in inner) entry inside.opinion inside.state in
      let here : inside.stopped ≡ false = goes_if inside.stopped inside rests (λ h. h) runs in
      let is : (if inside.stopped then inside else rests) ≡ rests = is_second inside.stopped inside rests here in
      let one : Moves p inside.state = walk_moves 0 inner at o o p here in
      subst (λ (w : Walked (PassState Telling)). Moves p w.state) (sym is)
      (then_moves p inside.state rests.state one
      (walk_moves 0 rest (at + lines_in inner) entry inside.opinion inside.state (sym (ap (λ (w : Walked (PassState Telling)). w.stopped) is) ∙ runs)))

  -- a whole run that has ended: it ran the lines that have the codes of its earlier calls, and then
  -- those that it took of the trace
  pub run_moves : (stack : Stack) (past : List Code) (t : Telling) → (pass_after kind kept replaying stack past t).stopped ≡ false
      → Moves (pass_state past [] t) (pass_after kind kept replaying stack past t).state
  run_moves stack past t runs = walk_moves 0 stack 1 opening opening (pass_state past [] t) runs

  -- one that isn't resumed
  pub runs_told : (stack : Stack) (left : List RecordedLine) (t : Telling) → t.left ≡ left → (pass_after kind kept replaying stack [] t).stopped ≡ false
      → (pass_after kind kept replaying stack [] t).state.visits ++ lines_of (pass_after kind kept replaying stack [] t).state.state.left ≡ lines_of left
  runs_told stack left t is runs =
      let w : Walked (PassState Telling) = pass_after kind kept replaying stack [] t in
      let m : Moves (pass_state [] [] t) w.state = run_moves stack [] t runs in
      ap (λ (vs : List Visit). vs ++ lines_of w.state.state.left)
      (m.visits ∙ ap (λ (es : List Visit). es ++ m.news) (no_visits m.early w.state.past m.past))
      ∙ sym m.told ∙ ap lines_of is
