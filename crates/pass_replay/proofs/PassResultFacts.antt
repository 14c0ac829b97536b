-- The result of a pass, from its walk.
use Rattle.std.proofs.Common.{◌≡◌, List, Option, Some, None, sym, ◌∙◌, ap}
use Rattle.pam_base.specs.declared.code.Code.{Code}
use Rattle.handler_chain.specs.declared.opinion.Opinion.{Opinion}
use Rattle.handler_chain.specs.declared.pass_kind.PassKind.{PassKind}
use Rattle.handler_chain.specs.Walk.{Walked}
use Rattle.handler_chain.specs.Route.{KeptAnswers}
use Rattle.handler_chain.specs.Pass.{PassState}
use Rattle.dispatch_core.specs.Calls.{Passed, passed_by, cached_after}
use Rattle.pass_replay.specs.Passed.{ended_code, ended_paused}
use Rattle.pass_replay.specs.Walk.{WalkEnds}

module _ {State : Type 0} (kind : PassKind) (kept : Option KeptAnswers) where
  abbrev passed_with : Code → Option KeptAnswers → Option (List Code) → State → Passed State
  passed_with code keeps paused state = record { code = code; kept = keeps; paused = paused; state = state }

  comes_to : (w : Walked (PassState State)) (end : Option Opinion) (s : PassState State) → WalkEnds w end s
      → passed_with (ended_code end) (cached_after kind s.visits kept) (ended_paused end s.visits) s.state ≡ passed_by kind kept w
  comes_to w None s is = sym (ap (passed_by kind kept) is)
  comes_to w (Some opinion) s is = sym (ap (passed_by kind kept) is)

  pub finished : (w : Walked (PassState State)) (end : Option Opinion) (s : PassState State)
      (code : Code) (keeps : Option KeptAnswers) (paused : Option (List Code)) → WalkEnds w end s
      → code ≡ ended_code end → keeps ≡ cached_after kind s.visits kept → paused ≡ ended_paused end s.visits
      → passed_with code keeps paused s.state ≡ passed_by kind kept w
  finished w end s code keeps paused is code_is keeps_is paused_is =
      ap (λ (c : Code). passed_with c keeps paused s.state) code_is
      ∙ ap (λ (k : Option KeptAnswers). passed_with (ended_code end) k paused s.state) keeps_is
      ∙ ap (λ (p : Option (List Code)). passed_with (ended_code end) (cached_after kind s.visits kept) p s.state) paused_is
      ∙ comes_to w end s is
