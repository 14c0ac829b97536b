-- In the usual stack a refused password is recorded.
use Rattle.std.proofs.Common.{◌≡◌, ℕ, List, Option, Some, codes, refl, sym, ap, ◌∙◌, subst}
use Rattle.pam_base.specs.declared.call.Func.TheVariants.{Authenticate}
use Rattle.pam_base.specs.declared.code.Code.{Code}
use Rattle.pam_base.specs.declared.code.Code.TheVariants as returns
use Rattle.pam_outside.specs.Files.{file_at}
use Rattle.pam_outside.specs.Paths.{path_of}
use Rattle.control_words.specs.declared.control.Action.{Action}
use Rattle.control_words.specs.declared.nodes.Rule.{Rule}
use Rattle.control_words.specs.Control.{action_at}
use Rattle.handler_chain.specs.FlatLines.{module_of}
use Rattle.handler_chain.specs.Pass.{Answered, PassState}
use Rattle.pam_room.specs.Call.{PlainCall}
use Rattle.pam_room.specs.Module.{Played, Player, Plays, SeenRoom, named_data, played_in, seen_of, sight_of}
use Rattle.pam_room.specs.Serve.{Answered as ServedLine, answer_or_incomplete, at_work, played_by, served, served_by}
use Rattle.pam_room.specs.State.{State, scene_in}
use Rattle.dispatch_core.specs.Lines.{answers_by, call_of, names_of}
use Rattle.mod_tally.specs.declared.tally.Failure.{Failure}
use Rattle.mod_tally.specs.Faillock.{faillock_plays, tally_name}
use Rattle.mod_tally.specs.Settings.{settings_of, task_among, task_word}
use Rattle.laws_lock.specs.Denied.{IsFaillock}
use Rattle.laws_lock.specs.Usual.{AuthfailRecords, CanRecord, RefusedIsRecorded, one_more}
use Rattle.laws_lock.proofs.UsualStackFacts.{three_lines}

-- an answer with its code
with_code : (a : Answered State) (code : Code) → a.answer ≡ code → a ≡ record { answer = code; state = a.state }
with_code a code is = ap (λ (c : Code). let r : Answered State = record { answer = c; state = a.state } in r) is

module _ (records : AuthfailRecords) (players : List Player) (flags : ℕ) (third : Rule) (s : State) (user : List ℕ) (failures : List Failure)
    (f : IsFaillock players third) (authfail : task_among third.args ≡ task_word (codes "authfail")) (is : s.room.transaction.items.user ≡ Some user)
    (can : CanRecord (settings_of third.args) (sight_of (scene_in s)) s.room.transaction.items user failures) where
  abbrev call : PlainCall
  call = call_of Authenticate flags third

  abbrev now : State
  now = at_work f.number s

  abbrev path : List ℕ
  path = path_of s.world.process.root (tally_name (settings_of third.args).folder user)

  abbrev text : List ℕ
  text = one_more (settings_of third.args) s.world.clock.moment s.room.transaction.items failures

  -- IGNORE was returned, and the failure is in the file
  record Shows (a : ServedLine) : Type 0 where
    answer : a.answer ≡ returns.Ignore
    file_is : file_at path a.state.world.vault.files ≡ Some text

  abbrev played : Played
  played = played_in faillock_plays call (scene_in now)

  own : Shows (played_by players (record { name = f.player.name; plays = faillock_plays; note = f.player.note; breaks = f.player.breaks }) call now)
  own =
      let r = records call (seen_of now.room) (named_data now.room.transaction.datums.live) (sight_of (scene_in now)) user failures refl authfail is can in
      record { answer = ap (λ (room : SeenRoom). answer_or_incomplete room.put_off played.code) r.room_is ∙ r.code_is; file_is = r.file_is }

  line_shows : Shows (served players (module_of (names_of players) third) call s)
  line_shows =
      subst (λ (o : Option ℕ). Shows (served players o call s)) (sym f.number_is)
      (subst (λ (o : Option Player). Shows (served_by players o f.number call s)) (sym f.player_is)
      (subst (λ (plays : Plays). Shows (played_by players
      (record { name = f.player.name; plays = plays; note = f.player.note; breaks = f.player.breaks }) call now)) (sym f.plays) own))

pub refused_is_recorded : AuthfailRecords → RefusedIsRecorded
refused_is_recorded records players flags kept first second third rest s user failures usual passes refuses whole is can =
    let answering = answers_by players Authenticate flags in
    let a = answering first 1 s in
    let b = answering second 2 a.state in
    let c = answering third 3 b.state in
    let shows = line_shows records players flags third b.state user failures usual.faillock usual.authfail is can in
    let ends = three_lines State kept answering first second third rest s a.state b.state c.state b.answer (with_code a returns.Success passes) refl
    (with_code c returns.Ignore shows.answer) (ap (λ (control : List Action). action_at control returns.Success) usual.gate.control)
    (usual.refuses b.answer refuses)
    (usual.dies returns.Ignore) whole in
    record {
      denied = ends.denied;
      ran = ap (λ (p : PassState State). p.visits) ends.state_is;
      file_is = ap (λ (p : PassState State). file_at (path_of b.state.world.process.root (tally_name (settings_of third.args).folder user))
          p.state.world.vault.files) ends.state_is ∙ shows.file_is;
    }
