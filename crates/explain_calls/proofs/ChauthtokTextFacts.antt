-- The text of the passes of chauthtok that are left.
use Rattle.std.proofs.Common.{◌≡◌, ℕ, List, ◌++◌, Option, None, refl, sym, subst}
use Rattle.std.specs.Prelude.{Result, Ok, Err, OnOk}
use Rattle.pam_base.specs.declared.code.Code.{Code}
use Rattle.pam_base.specs.declared.call.Func.{Func}
use Rattle.pam_base.specs.declared.call.Func.TheVariants.{ChAuthTok}
use Rattle.service_load.specs.Stacks.{Stacks}
use Rattle.handler_chain.specs.Retell.{Telling}
use Rattle.handler_chain.specs.Route.{KeptAnswers}
use Rattle.pass_replay.specs.dispatch_core.specs.Calls.{Held}
use Rattle.explain_lines.specs.Origins.{Sources}
use Rattle.explain_calls.specs.Calls.{call_after_text, change_text, check_text, first_text}

-- what follows from a fact about a success
on_ok : {A E P Q : Type 0} (r : Result A E) → (P → Q) → OnOk r P → OnOk r Q
on_ok (Ok x) f p = f p
on_ok (Err e) f p = tt

-- both passes, if no codes of a first one are held
pub both_left : {A E : Type 0} (stacks : Stacks) (sources : Sources) (number : ℕ) (past : List Code) (first : Option KeptAnswers) (h : Held) (told : Telling)
    (old new : List ℕ) (r : Result A E)
    → first ≡ None → OnOk r ((any : Held) → new ≡ old ++ check_text stacks sources number past any told)
    → OnOk r (new ≡ old ++ change_text stacks sources number past first h told)
both_left stacks sources number past first h told old new r is adds =
    on_ok r (λ all. subst (λ (f : Option KeptAnswers). new ≡ old ++ change_text stacks sources number past f h told) (sym is) (all h)) adds

-- a call that isn't chauthtok has one pass
pub only_first : {A E : Type 0} (stacks : Stacks) (sources : Sources) (number : ℕ) (func : Func) (past : List Code) (first : Option KeptAnswers) (h : Held) (told : Telling)
    (old new : List ℕ) (r : Result A E)
    → (func ≡ ChAuthTok → ⊥) → OnOk r (new ≡ old ++ first_text stacks sources number func past h told)
    → OnOk r (new ≡ old ++ call_after_text stacks sources number func past first h told)
only_first stacks sources number ChAuthTok past first h told old new r differs adds = absurd (differs refl)
only_first stacks sources number func past first h told old new r differs adds = adds
