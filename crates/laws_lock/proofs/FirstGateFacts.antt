-- A pass whose first line is a gate.
use Rattle.std.proofs.Common.{◌≡◌, ℕ, List, [], ◌∷◌, Option, Some, refl, ap, ◌∙◌}
use Rattle.pam_base.specs.declared.call.Func.TheVariants.{Authenticate}
use Rattle.pam_base.specs.declared.code.Code.{Code}
use Rattle.pam_base.specs.declared.code.Code.TheVariants as returns
use Rattle.control_words.specs.declared.nodes.Rule.{Rule}
use Rattle.handler_chain.specs.declared.pass_kind.PassKind.TheVariants as kinds
use Rattle.handler_chain.specs.Pass.{is_incomplete, visit}
use Rattle.pam_room.specs.Call.{PlainCall}
use Rattle.pam_room.specs.Module.{Played, Player, Plays, named_data, played_in, seen_of, sight_of}
use Rattle.pam_room.specs.Serve.{answer_or_incomplete, at_work, served, served_by}
use Rattle.pam_room.specs.State.{State, scene_in}
use Rattle.dispatch_core.specs.Lines.{answers_by, call_of}
use Rattle.mod_tally.specs.Settings.{settings_of}
use Rattle.laws_lock.specs.Locked.{IsLocked, LockedIsRefused}
use Rattle.laws_stack.proofs.FirstLineEndFacts.{failing_first_line_ends}
use Rattle.laws_stack.specs.Success.{is_failure}
use Rattle.laws_lock.specs.Denied.{IsGate, LockedIsDenied}

module _ (locked : LockedIsRefused) where
  gate_answers : (players : List Player) (flags : ℕ) (rule : Rule) (s : State) (user : List ℕ) → IsGate players rule → s.room.transaction.items.user ≡ Some user
      → IsLocked (settings_of rule.args) (sight_of (scene_in s)) user
      → (answers_by players Authenticate flags rule 1 s).answer ≡ returns.AuthErr
  gate_answers players flags rule s user gate is l =
      let f = gate.faillock in
      let call : PlainCall = call_of Authenticate flags rule in
      let now : State = at_work f.number s in
      let p = locked call (seen_of now.room) (named_data now.room.transaction.datums.live) (sight_of (scene_in now)) user refl gate.preauth is l in
      ap (λ (o : Option ℕ). (served players o call s).answer) f.number_is
      ∙ ap (λ (o : Option Player). (served_by players o f.number call s).answer) f.player_is
      ∙ ap (λ (plays : Plays). answer_or_incomplete (played_in plays call (scene_in now)).room.put_off (played_in plays call (scene_in now)).code) f.plays
      ∙ ap (λ (q : Played). answer_or_incomplete q.room.put_off q.code) p

  pub denied : LockedIsDenied
  denied players flags kept rule rest s user gate is l =
      let answering = answers_by players Authenticate flags in
      let answer = gate_answers players flags rule s user gate is l in
      let e = failing_first_line_ends State kinds.Keep kept answering rule rest s gate.control (ap is_failure answer) (ap is_failure answer)
      (ap is_incomplete answer) in
      record {
        code_is = e.code_is ∙ answer;
        ran = e.ran ∙ ap (λ (c : Code). visit 1 c ∷ []) answer;
        state_is = e.state_is;
      }
