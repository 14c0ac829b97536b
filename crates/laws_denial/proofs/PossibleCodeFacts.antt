-- A run whose lines return only possible codes, as long as a fact holds of the state that each line keeps.
use Rattle.std.proofs.Common.{◌≡◌, ℕ, zero, suc, ◌+◌, Bool, true, false, if◌then◌else◌, IsTrue, List, [], ◌∷◌, ◌++◌, refl}
use Rattle.pam_base.specs.declared.code.Code.{Code}
use Rattle.control_words.specs.declared.control.Action.{Action}
use Rattle.control_words.specs.declared.nodes.Rule.{Rule}
use Rattle.control_words.specs.Control.{action_at}
use Rattle.control_words.specs.Stack.{Stack, none, line, sub, count, lines_in}
use Rattle.handler_chain.specs.declared.opinion.Opinion.{Opinion}
use Rattle.handler_chain.specs.declared.pass_kind.PassKind.TheVariants as kinds
use Rattle.handler_chain.specs.Opinion.{acted}
use Rattle.handler_chain.specs.Pass.{Answering, PassState, Visit, is_incomplete, served_past, serving, visit}
use Rattle.handler_chain.specs.Route.{KeptAnswers}
use Rattle.handler_chain.specs.Walk.{Next, Served, Walked, after, halted, next_of, new_or_overrun, onward, stop, walk, walked}
use Rattle.stack_ways.specs.MayEnd.{CodesOf}
use Rattle.stack_ways.specs.Laws.{ArePossible}
use Rattle.stack_ways.proofs.Traces.{both_possible}
use Rattle.laws_denial.specs.Kept_out.{EachLine}

module _ (State : Type 0) (Holds : State → Type 0) (possible : CodesOf) (answering : Answering State) where
  -- what a line gives, if the fact holds before it
  pub record Gives (place : ℕ) (rule : Rule) (s : State) : Type 0 where
    pub may : is_incomplete (answering rule place s).answer ≡ false → IsTrue (possible place (answering rule place s).answer)
    pub holds : Holds (answering rule place s).state

  abbrev pub LineGives : ℕ → Rule → Type 0
  LineGives place rule = (s : State) → Holds s → Gives place rule s

  module _ (kept : KeptAnswers) where
    -- so far
    pub record Good (p : PassState State) : Type 0 where
      pub none_left : p.past ≡ []
      pub may : ArePossible possible p.visits
      pub holds : Holds p.state

    added : (incomplete : Bool) (visits : List Visit) (place : ℕ) (code : Code) → (incomplete ≡ false → IsTrue (possible place code))
        → ArePossible possible visits
        → ArePossible possible (if incomplete then visits else visits ++ visit place code ∷ [])
    added true visits place code may all = all
    added false visits place code may all = both_possible possible visits (visit place code ∷ []) all (may refl, tt)

    by_past : (past : List Code) (visits : List Visit) (s : State) (place : ℕ) (rule : Rule) → past ≡ [] → ArePossible possible visits → Holds s
        → LineGives place rule
        → Good (served_past kinds.Keep kept answering rule place past visits s).state
    by_past (p ∷ past) visits s place rule empty all holds gives = absurd cc
    by_past [] visits s place rule empty all holds gives =
        let g = gives s holds in
        record {
          none_left = refl;
          may = added (is_incomplete (answering rule place s).answer) visits place (answering rule place s).answer g.may all;
          holds = g.holds;
        }

    either : (b : Bool) (x y : Walked (PassState State)) → Good x.state → Good y.state → Good (if b then x else y).state
    either true x y p q = p
    either false x y p q = q

    onwards : (next : Next) (rest : ℕ → Walked (PassState State)) (here : Walked (PassState State)) → ((n : ℕ) → Good (rest n).state) → Good here.state
        → Good (onward next rest here).state
    onwards (after n) rest here all good = all n
    onwards stop rest here all good = good

    abbrev goes : ℕ → Stack → ℕ → Opinion → Opinion → PassState State → Walked (PassState State)
    goes skip stack at entry opinion p = walk kinds.Keep (serving kinds.Keep kept answering) skip stack at entry opinion p

    pub all_good : (skip : ℕ) (stack : Stack) (at : ℕ) (entry opinion : Opinion) (p : PassState State) → EachLine LineGives at stack → Good p
        → Good (goes skip stack at entry opinion p).state
    all_good skip none at entry opinion p each good = good
    all_good (suc skip) (line rule rest) at entry opinion p each good = all_good skip rest (at + 1) entry opinion p each.1 good
    all_good (suc skip) (sub inner rest) at entry opinion p each good = all_good skip rest (at + lines_in inner) entry opinion p each.1 good
    all_good zero (line rule rest) at entry opinion p each good =
        let served : Served (PassState State) = served_past kinds.Keep kept answering rule at p.past p.visits p.state in
        let action : Action = action_at rule.control served.deciding in
        let new : Opinion = acted kinds.Keep action served.answer served.deciding entry opinion in
        let last : Opinion = new_or_overrun action (count rest) new in
        let there : Good served.state = by_past p.past p.visits p.state at rule good.none_left good.may good.holds each.0 in
        either served.stopped (halted opinion served.state)
        (onward (next_of action (count rest) new) (λ n. goes n rest (at + 1) entry last served.state) (walked last served.state)) there
        (onwards (next_of action (count rest) new) (λ n. goes n rest (at + 1) entry last served.state) (walked last served.state)
        (λ n. all_good n rest (at + 1) entry last served.state each.1 there) there)
    all_good zero (sub inner rest) at entry opinion p each good =
        let inside : Walked (PassState State) = goes 0 inner at opinion opinion p in
        let there : Good inside.state = all_good 0 inner at opinion opinion p each.0 good in
        either inside.stopped inside (goes 0 rest (at + lines_in inner) entry inside.opinion inside.state) there
        (all_good 0 rest (at + lines_in inner) entry inside.opinion inside.state each.1 there)
