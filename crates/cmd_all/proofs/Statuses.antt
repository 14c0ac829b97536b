-- What the status of a run that was begun says about the whole script.
use Rattle.std.proofs.Common.{◌≡◌, ℕ, List, [], ◌++◌, Option, Ok, sym, ap, ◌∙◌, subst}
use Rattle.pam_base.specs.declared.fault.ScriptKind.{ScriptKind}
use Rattle.pam_outside.specs.Streams.{SourceState, SinkState}
use Rattle.data_cleanup.specs.Modelled.{ModelsEvents}
use Rattle.pam_room.specs.Module.{notes_of}
use Rattle.pam_library.specs.Slots.{lists_of}
use Rattle.record_reader.specs.Run.{come_to}
use Rattle.record_reader.specs.LineRun.{Run}
use Rattle.record_reader.specs.LineTurns.{Ending}
use Rattle.record_reader.specs.declared.ending.Ending.TheVariants.{Done, ReadFault, Refused}
use Rattle.cmd_run.specs.State.{Setting, RunState}
use Rattle.cmd_run.specs.Events.{AreDue, AddsEvents, run_events}
use Rattle.cmd_run.specs.Whole.{RunsScript, ending_status}
use Rattle.cmd_all.specs.Run.{IsDone, IsRefused, IsUnread, events_in, report_of, world_after}

module _ (setting : Setting) (start end : RunState) (x y : SourceState) (p q : SinkState) where
  abbrev NoneYet : Type 0
  NoneYet = ModelsEvents (notes_of setting.players) 17 start.world.process.ledger (lists_of start.slots) []

  -- the events of a run, by the results of its lines
  abbrev Due : Ending → Run RunState → Type 0
  Due ending r = AreDue (notes_of setting.players) (events_in setting ending start x.left r) end.world.process.ledger

  due_by : (ending : Ending) (r : Run RunState) (text : List ℕ) (last : RunState) (lines : ℕ) (refused : Option ScriptKind)
      → r ≡ come_to text last lines refused
      → NoneYet → AddsEvents (notes_of setting.players) (run_events setting (ending_status ending) start x.left lines last) start end → Due ending r
  due_by ending r text last lines refused comes none_yet stands =
      let stand = stands [] none_yet in
      subst (Due ending) (sym comes) (record { births = stand.births; receipts = stand.receipts })

  pub done_whole : NoneYet → RunsScript setting (Ok Done) start end x y p q → IsDone setting start end.world x y p q
  done_whole none_yet s =
      let comes = s.outcome.comes.1 in
      record {
        accepted = ap (λ r. r.refused) comes;
        reported = record {
          written = s.sink ∙ ap (λ (t : List ℕ). p.written ++ t) (s.outcome.whole ∙ sym (ap (report_of setting Done) comes));
          world_is = ap (λ (t : RunState). t.world) s.outcome.closed ∙ sym (ap (world_after setting Done) comes);
          are_due = due_by Done _ _ _ _ _ comes none_yet s.outcome.stands;
        };
        read_out = s.outcome.comes.0;
      }

  pub refused_whole : (kind : ScriptKind) → NoneYet → RunsScript setting (Ok (Refused kind)) start end x y p q → IsRefused setting start end.world x y p q
  refused_whole kind none_yet s =
      let comes = s.outcome.comes.0 in
      record {
        kind = kind;
        refused = ap (λ r. r.refused) comes;
        reported = record {
          written = s.sink ∙ ap (λ (t : List ℕ). p.written ++ t) (s.outcome.whole ∙ sym (ap (report_of setting (Refused kind)) comes));
          world_is = ap (λ (t : RunState). t.world) s.outcome.closed ∙ sym (ap (world_after setting (Refused kind)) comes);
          are_due = due_by (Refused kind) _ _ _ _ _ comes none_yet s.outcome.stands;
        };
        early = s.last.early;
        late = s.last.late;
        taken = s.source ∙ ap (λ (t : List ℕ). t ++ y.left) s.last.parts;
        room = s.last.room;
        not_before = s.last.accepted;
      }

  pub unread_whole : NoneYet → RunsScript setting (Ok ReadFault) start end x y p q → IsUnread setting start end.world x y p q
  unread_whole none_yet s =
      let comes = s.outcome.comes in
      record {
        taken = s.taken;
        source = s.source;
        accepted = ap (λ r. r.refused) comes;
        reported = record {
          written = s.sink ∙ ap (λ (t : List ℕ). p.written ++ t) (s.outcome.whole ∙ sym (ap (report_of setting ReadFault) comes));
          world_is = ap (λ (t : RunState). t.world) s.outcome.closed ∙ sym (ap (world_after setting ReadFault) comes);
          are_due = due_by ReadFault _ _ _ _ _ comes none_yet s.outcome.stands;
        };
      }
