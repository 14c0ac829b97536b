-- The lines of pam_faillock that calls run have the `fail_interval` of the configuration.
use Rattle.std.proofs.Common.{◌≡◌, inl, inr, ℕ, ◌+◌, List, [], ◌∷◌, ◌++◌, Option, Some, None, sym, ap, ◌∙◌, subst}
use Rattle.std.specs.List.{AllByRecursion}
use Rattle.pam_base.specs.declared.code.Code.{Code}
use Rattle.pam_base.specs.declared.call.Func.{Func}
use Rattle.pam_base.specs.declared.call.Func.TheVariants as funcs
use Rattle.control_words.specs.declared.nodes.Rule.{Rule}
use Rattle.control_words.specs.Stack.{Stack, none, line, sub, lines_in}
use Rattle.service_load.specs.Stacks.{Stacks}
use Rattle.pam_outside.specs.Files.{File}
use Rattle.pam_room.specs.Module.{Player}
use Rattle.pam_room.specs.State.{PlainWorld, State, state_of}
use Rattle.pam_room.specs.declared.visits.Visit.{Visit}
use Rattle.pam_handle.specs.AfterPasses.{EndsLeaveIt}
use Rattle.pam_handle.specs.Items.{all_told}
use Rattle.pam_handle.specs.StackCalls.{room_begun}
use Rattle.pam_handle.specs.Stopping.{first_stack}
use Rattle.pam_library.specs.Plays.{AskedLine, IsLineOf, LineRun, RunOn, RunsBy, RunsNothing, IsRuleAt, asked_along, module_of_path, run_in}
use Rattle.pam_library.specs.StackOf.{stack_of}
use Rattle.pam_library.specs.SideBySide.{Met}
use Rattle.pam_library.specs.Slots.{PlainSlot, closed, opened, slot_at}
use Rattle.pam_library.specs.Step.{stepped}
use Rattle.mod_tally.specs.Faillock.{faillock_plays}
use Rattle.mod_tally.specs.Settings.{settings_of}
use Rattle.laws_lockout.specs.Calls.{FindsSuch, StepsAsk}
use Rattle.laws_lockout.specs.Within.{AllCountWithin, CountsWithin, EachRule}
use Rattle.laws_lockout.proofs.KeptStackFacts.{AllHave, HasIf, have_at, step_has}

-- ---- a line of a stack

at_place : (Holds : Rule → Type 0) (rule : Rule) (place : ℕ) (stack : Stack) (at : ℕ) → EachRule Holds stack → IsRuleAt rule place stack at → Holds rule
at_place Holds rule place none at each stands = absurd stands
at_place Holds rule place (line r rest) at each (inl is) = subst Holds (sym is.0) each.0
at_place Holds rule place (line r rest) at each (inr more) = at_place Holds rule place rest (at + 1) each.1 more
at_place Holds rule place (sub inner rest) at each (inl more) = at_place Holds rule place inner at each.0 more
at_place Holds rule place (sub inner rest) at each (inr more) = at_place Holds rule place rest (at + lines_in inner) each.1 more

pub both_hold : {A : Type 0} (P : A → Type 0) (xs ys : List A) → AllByRecursion P xs → AllByRecursion P ys → AllByRecursion P (xs ++ ys)
both_hold P [] ys a b = b
both_hold P (x ∷ xs) ys a b = (a.0, both_hold P xs ys a.1 b)

module _ (players : List Player) (interval : ℕ) where
  abbrev Such : Stacks → Type 0
  Such stacks = AllCountWithin players interval stacks

  -- so it is in a line that was run
  abbrev pub WithinIf : AskedLine → Type 0
  WithinIf a = (p : Player) → module_of_path players a.visit.path ≡ Some p → p.plays ≡ faillock_plays → (settings_of a.asked.call.args).interval ≡ interval

  by_func : (func : Func) (stacks : Stacks) → Such stacks → EachRule (CountsWithin players interval) (first_stack func stacks)
  by_func funcs.Authenticate stacks all = all.auth
  by_func funcs.SetCred stacks all = all.auth
  by_func funcs.AcctMgmt stacks all = all.account
  by_func funcs.OpenSession stacks all = all.session
  by_func funcs.CloseSession stacks all = all.session
  by_func funcs.ChAuthTok stacks all = all.password

  along : (call : Func × ℕ) (stacks : Stacks) → Such stacks → (ls : List LineRun) (s t : State) → AllByRecursion (IsLineOf call stacks) ls
      → RunOn players ls s t → AllByRecursion WithinIf (asked_along players ls s)
  along call stacks all [] s t each ran = tt
  along call stacks all (l ∷ ls) s t each ran =
      let path_is : l.visit.path ≡ l.rule.path = ap (λ (v : Visit). v.path) ran.0 in
      let within : CountsWithin players interval l.rule =
      at_place (CountsWithin players interval) l.rule l.visit.place (first_stack call.0 stacks) 1 (by_func call.0 stacks all) each.0.stands in (
        (λ p there same. within p (ap (module_of_path players) (sym path_is) ∙ there) same),
        along call stacks all ls (run_in players l s).state t each.1 ran.1,
      )

  nothing_asked : (w : PlainWorld) (trail : List Visit) (asked : List AskedLine) (last : List File) → RunsNothing w trail asked last
      → AllByRecursion WithinIf asked
  nothing_asked w trail asked last r = subst (AllByRecursion WithinIf) (sym r.asked_are) tt

  pub by_slot : (w : PlainWorld) (slot : Option PlainSlot) (call : Option (Func × ℕ)) (trail : List Visit) (asked : List AskedLine) (last : List File)
      → HasIf Such slot
      → RunsBy players w slot call trail asked last → AllByRecursion WithinIf asked
  by_slot w (Some (opened h)) (Some call) trail asked last has r =
      subst (AllByRecursion WithinIf) (sym r.asked_are)
      (along call h.stacks has r.lines (state_of (room_begun call.0 (all_told h)) w) r.last r.each r.ran)
  by_slot w (Some (opened h)) None trail asked last has r = nothing_asked w trail asked last r
  by_slot w (Some (closed conv)) call trail asked last has r = nothing_asked w trail asked last r
  by_slot w None call trail asked last has r = nothing_asked w trail asked last r

  pub steps_within : EndsLeaveIt → (number_of : Code → ℕ → ℕ) (steps : List Met) (slots : List PlainSlot) (asked : List AskedLine) → AllHave Such slots
      → AllByRecursion (λ (m : Met). FindsSuch Such m.world m.step.call) steps → StepsAsk players number_of slots steps asked → AllByRecursion WithinIf asked
  steps_within ends number_of [] slots asked all finds none_asked = subst (AllByRecursion WithinIf) (sym none_asked) tt
  steps_within ends number_of (m ∷ steps) slots asked all finds a =
      let next = (stepped players number_of slots m.world m.step).slots in
      subst (AllByRecursion WithinIf) (sym a.2)
      (both_hold WithinIf a.0 a.1 (by_slot m.world (slot_at slots m.step.number) (stack_of m.step.call) _ a.0 _ (have_at Such slots m.step.number all) a.3)
      (steps_within ends number_of steps next a.1 (step_has ends players number_of Such slots m.world m.step all finds.0) finds.1 a.4))
