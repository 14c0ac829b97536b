-- A call that is one pass.
use Rattle.std.proofs.Common.{◌≡◌, false, List, Option, None, refl, ap, ◌∙◌}
use Rattle.pam_base.specs.declared.code.Code.{Code}
use Rattle.pam_base.specs.declared.call.Func.{Func}
use Rattle.dispatch_core.specs.service_load.specs.Stacks.{Stacks}
use Rattle.handler_chain.specs.Route.{KeptAnswers}
use Rattle.dispatch_core.specs.Calls.{Asking, Held, Passed, Went, first_kept, first_pass, first_stack, held_past, kind_of, one_pass, passes, went}

module _ {State : Type 0} (asking : Asking State) (stacks : Stacks) where
  pub called : (func : Func) (past : List Code) (h left : Held) (s : State) (kept : Option KeptAnswers) (p : Passed State) (w : Went State)
      → kept ≡ first_kept func h → held_past func None p left ≡ held_past func None p h
      → p ≡ passes asking stacks func false (kind_of func kept) kept (first_stack func stacks) past s → w ≡ went p.code (held_past func None p left) p.state
      → w ≡ one_pass asking stacks func past h s
  called func past h left s kept p w k r e f =
      let first : p ≡ first_pass asking stacks func past h s = e ∙ rw k refl in
      f ∙ ap (λ (x : Held). went p.code x p.state) r ∙ ap (λ (q : Passed State). went q.code (held_past func None q h) q.state) first
