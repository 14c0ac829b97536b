-- A line's return code, from what the chain holds about the line.
use Rattle.std.proofs.Common.{◌≡◌, ℕ, ◌+◌, ◌<◌, ◌≤◌, Bool, true, false, if◌then◌else◌, Option, Some, None, IfSome, Result, Ok, Err, IfOk, OnErr, List, [], ◌∷◌, ◌++◌, length, map, refl, sym, ◌∙◌, ap, subst, arith}
use Rattle.std.proofs.lemmas.List.{length-map}
use Rattle.std.specs.Str.{bytes_eq}
use Rattle.pam_base.specs.declared.call.Func.{Func}
use Rattle.pam_base.specs.declared.code.Code.{Code}
use Rattle.control_words.specs.Module.{name_of_module}
use Rattle.control_words.specs.Stack.{Stack, lines_in}
use Rattle.handler_chain.specs.FlatLines.{FlatLine, module_at, module_of, no_rule, number_of_name, rule_at}
use Rattle.pam_room.specs.declared.visits.Visit.{Visit}
use Rattle.pam_room.specs.State.{PlainTransaction, State}
use Rattle.pam_room.specs.Module.{Breaks, Note, Player, Plays, player_of}
use Rattle.pam_room.specs.Serve.{LineBreaks, serve_line}
use Rattle.pam_room.specs.Serve as room
use Rattle.handler_chain.specs.Pass.{AnswersAs}
use Rattle.dispatch_core.specs.Failing.{BreaksAt, IsAtWork, visited_at}
use Rattle.dispatch_core.specs.Lines.{answers_by, names_of}
use Rattle.dispatch_core.proofs.StackLineFacts.{stands_at, at_line-stands}

-- the names of modules are those of their definitions
names_are : {M : Type 0} (label : M → List ℕ) (plays : M → Plays) (note : M → Note) (breaks : M → Breaks) (mods : List M)
    → map label mods ≡ names_of (map (player_of label plays note breaks) mods)
names_are label plays note breaks [] = refl
names_are label plays note breaks (m ∷ ms) = ap (λ (names : List (List ℕ)). label m ∷ names) (names_are label plays note breaks ms)

-- a number that is found is the number of a name
found_if : (b : Bool) (x y : Option ℕ) (limit : ℕ) → IfSome x (λ n. n < limit) → IfSome y (λ n. n < limit) → IfSome (if b then x else y) (λ n. n < limit)
found_if true x y limit first second = first
found_if false x y limit first second = second

found_within : (wanted : List ℕ) (i limit : ℕ) (names : List (List ℕ)) → i + length names ≤ limit → IfSome (number_of_name wanted i names) (λ n. n < limit)
found_within wanted i limit [] within = tt
found_within wanted i limit (name ∷ names) within =
    found_if (bytes_eq name wanted) (Some i) (number_of_name wanted (i + 1) names) limit (omega (arith, within)) (found_within wanted (i + 1) limit names (omega (arith, within)))

module_is : (stack : Stack) (names : List (List ℕ)) (i : ℕ) → i < lines_in stack → module_at stack names i ≡ module_of names (rule_at stack i)
module_is stack names i within =
    let at = stands_at stack i within in
    at_line-stands None (λ (l : FlatLine). module_of names l.rule) stack i at.line _ at.stands
    ∙ ap (module_of names) (sym (at_line-stands no_rule (λ (l : FlatLine). l.rule) stack i at.line _ at.stands))

-- there are as many modules as names
pub few_modules : {M : Type 0} (label : M → List ℕ) (mods : List M) (names : List (List ℕ)) (limit : ℕ)
    → names ≡ map label mods → length names < limit → length mods < limit
few_modules label mods names limit is few = omega (arith, ap length is, length-map mods label, few)

-- the module of a line is one of those that are there
pub module_there : {M : Type 0} (label : M → List ℕ) (mods : List M) (stack : Stack) (names : List (List ℕ)) (i : ℕ) (number : Option ℕ)
    → i < lines_in stack → names ≡ map label mods → number ≡ module_at stack names i → IfSome number (λ n. n < length mods)
module_there label mods stack names i number within is found =
    let few : 0 + length names ≤ length mods = omega (arith, ap length is, length-map mods label) in
    subst (λ (o : Option ℕ). IfSome o (λ n. n < length mods)) (sym (found ∙ module_is stack names i within))
    (found_within (name_of_module (rule_at stack i).path) 0 (length mods) names few)

-- the module of a line is the first one of that name
number_is : {M : Type 0} (label : M → List ℕ) (plays : M → Plays) (note : M → Note) (breaks : M → Breaks) (mods : List M) (stack : Stack) (names : List (List ℕ)) (i : ℕ) (number : Option ℕ)
    → i < lines_in stack → names ≡ map label mods → number ≡ module_at stack names i
    → number ≡ module_of (names_of (map (player_of label plays note breaks) mods)) (rule_at stack i)
number_is label plays note breaks mods stack names i number within is found =
    found ∙ module_is stack names i within ∙ ap (λ (ns : List (List ℕ)). module_of ns (rule_at stack i)) (is ∙ names_are label plays note breaks mods)

-- a line that ran out of memory isn't recorded as run, and its module was at work
pub line_at_work : {M E : Type 0} (label : M → List ℕ) (plays : M → Plays) (note : M → Note) (breaks : M → Breaks) (mods : List M) (stack : Stack) (names : List (List ℕ)) (i : ℕ) (number : Option ℕ) (result : Result Code E) (old new : PlainTransaction)
    → i < lines_in stack → names ≡ map label mods → number ≡ module_at stack names i → OnErr result (number ≡ Some new.serving) → OnErr result (new.trail ≡ old.trail)
    → OnErr result (IsAtWork (map (player_of label plays note breaks) mods) (rule_at stack i) old new)
line_at_work label plays note breaks mods stack names i number (Ok code) old new within is found work trail = tt
line_at_work label plays note breaks mods stack names i number (Err e) old new within is found work trail =
    (sym (number_is label plays note breaks mods stack names i number within is found) ∙ work, trail)

-- a line that returned is recorded as the line of its index
pub line_visited : {E : Type 0} (result : Result Code E) (stack : Stack) (i place : ℕ) (path : List ℕ) (old new : List Visit) → place ≡ i + 1 → path ≡ (rule_at stack i).path
    → IfOk result (λ code. new ≡ old ++ record { place = place; path = path; answer = code } ∷ []) → IfOk result (λ code. new ≡ old ++ visited_at stack i code ∷ [])
line_visited (Ok code) stack i place path old new at its seen = rw (← at, ← its) seen
line_visited (Err e) stack i place path old new at its seen = tt

-- what a line's module returns is the line's code
module _ {M : Type 0} (label : M → List ℕ) (plays : M → Plays) (note : M → Note) (breaks : M → Breaks) (mods : List M) (func : Func) (flags : ℕ) (stack : Stack) (i : ℕ) where
  pub line_answered : (names : List (List ℕ)) (number : Option ℕ) (place : ℕ) (path : List ℕ) (args : List (List ℕ)) (s later : State) (code : Code)
      → i < lines_in stack → names ≡ map label mods → number ≡ module_at stack names i → place ≡ i + 1 → path ≡ (rule_at stack i).path → args ≡ (rule_at stack i).args
      → room.AnswersAs (serve_line (map (player_of label plays note breaks) mods) number place path (record { func = func; flags = flags; args = args }) s) code later
      → AnswersAs (answers_by (map (player_of label plays note breaks) mods) func flags (rule_at stack i) (i + 1) s) code later
  line_answered names number place path args s later code within is found at its given answers =
      let names_so : names ≡ names_of (map (player_of label plays note breaks) mods) = is ∙ names_are label plays note breaks mods in
      let number_so : number ≡ module_of (names_of (map (player_of label plays note breaks) mods)) (rule_at stack i) =
      found ∙ module_is stack names i within ∙ ap (λ (ns : List (List ℕ)). module_of ns (rule_at stack i)) names_so in
      let players : List Player = map (player_of label plays note breaks) mods in
      let first = subst (λ (n : Option ℕ). room.AnswersAs (serve_line players n place path (record { func = func; flags = flags; args = args }) s) code later) number_so answers in
      let second = subst (λ (n : ℕ). room.AnswersAs (serve_line players (module_of (names_of players) (rule_at stack i)) n path (record { func = func; flags = flags; args = args }) s) code later) at first in
      let third = subst (λ (p : List ℕ). room.AnswersAs (serve_line players (module_of (names_of players) (rule_at stack i)) (i + 1) p (record { func = func; flags = flags; args = args }) s) code later) its second in
      let fourth : room.AnswersAs (serve_line players (module_of (names_of players) (rule_at stack i)) (i + 1) (rule_at stack i).path (record { func = func; flags = flags; args = (rule_at stack i).args }) s) code later =
      subst (λ (a : List (List ℕ)). room.AnswersAs (serve_line players (module_of (names_of players) (rule_at stack i)) (i + 1) (rule_at stack i).path (record { func = func; flags = flags; args = a }) s) code later) given third in
      record { answer_is = fourth.answer_is; state_is = fourth.state_is }

  -- what a line's module left when an allocation failed is what the module of the line may leave
  pub line_broken : {E : Type 0} (result : Result Code E) (names : List (List ℕ)) (number : Option ℕ) (args : List (List ℕ)) (s later : State)
      → i < lines_in stack → names ≡ map label mods → number ≡ module_at stack names i → args ≡ (rule_at stack i).args
      → OnErr result (LineBreaks (map (player_of label plays note breaks) mods) number (record { func = func; flags = flags; args = args }) s later)
      → OnErr result (BreaksAt (map (player_of label plays note breaks) mods) func flags stack i s later)
  line_broken (Ok code) names number args s later within is found given left = tt
  line_broken (Err e) names number args s later within is found given left =
      let players : List Player = map (player_of label plays note breaks) mods in
      subst (λ (a : List (List ℕ)). LineBreaks players (module_of (names_of players) (rule_at stack i)) (record { func = func; flags = flags; args = a }) s later) given
      (subst (λ (n : Option ℕ). LineBreaks players n (record { func = func; flags = flags; args = args }) s later)
      (number_is label plays note breaks mods stack names i number within is found) left)
