-- What the status of a run says, whether it was begun or not.
use Rattle.std.proofs.Common.{◌≡◌, inl, inr, ℕ, suc, Bool, true, false, ◌&&◌, IsTrue, List, [], ◌∷◌, length, map, Option, Result, Ok, Err}
use Rattle.std.proofs.Common.{refl, sym, ap, ap₂, ◌∙◌, subst, subst₂, arith}
use Rattle.pam_room.specs.conv_port.specs.Conv.{ConvState}
use Rattle.data_cleanup.specs.Cleanup.{Notes}
use Rattle.data_cleanup.specs.Ledger.{PlainLedger}
use Rattle.data_cleanup.specs.Modelled.{ModelsEvents}
use Rattle.pam_outside.specs.Streams.{SourceState, SinkState}
use Rattle.pam_base.specs.declared.code.Code.{Code}
use Rattle.pam_room.specs.Module.{Player, notes_of}
use Rattle.pam_room.specs.State.{PlainWorld}
use Rattle.pam_library.specs.Slots.{NoneIsOpen, PlainSlot, closed, lists_of}
use Rattle.pam_library.specs.Sound.{IsSound}
use Rattle.record_reader.specs.LineTurns.{Ending}
use Rattle.record_reader.specs.declared.ending.Ending.{Ending as StreamEnding}
use Rattle.record_reader.specs.declared.ending.Ending.TheVariants.{Done, ReadFault, Refused}
use Rattle.record_reader.specs.declared.ending.Stop.{Stop}
use Rattle.record_reader.specs.declared.ending.Stop.TheVariants.{NoMemory, WriteFault}
use Rattle.cmd_run.specs.Made.{ReportsRun}
use Rattle.cmd_run.specs.Run.{RunTold}
use Rattle.cmd_run.specs.State.{Setting, RunState, state_of}
use Rattle.cmd_run.specs.Whole.{RunsScript}
use Rattle.cmd_run.specs.Seen.{SessionSeen, setting_at}
use Rattle.cmd_all.specs.declared.exit.Exit.TheVariants as exits
use Rattle.cmd_all.specs.Exit.{exit_status, script_exit}
use Rattle.cmd_all.specs.Setup.{Around, Moments, Object, Setup}
use Rattle.cmd_all.specs.Login.{at_root}
use Rattle.cmd_all.specs.Opened.{IsOpened}
use Rattle.cmd_all.specs.Under.{IsBegunSo}
use Rattle.cmd_all.specs.Run.{IsDone, IsRefused, IsReset, IsUnread, Runs, opening, under_root}
use Rattle.cmd_all.proofs.Statuses.{done_whole, refused_whole, unread_whole}

pub both_left : (a b : Bool) → IsTrue (a && b) → IsTrue a
both_left true b both = refl
both_left false b both = both

pub both_right : (a b : Bool) → IsTrue (a && b) → IsTrue b
both_right true b both = both
both_right false b both = absurd (cc)

-- the reports of a run, with other names for its modules and slots
pub reports_as : {Kind : Type 0} (wrapped : List ℕ → List ℕ) (last_text : StreamEnding Kind → ℕ → Option (List ℕ)) (result : Result (StreamEnding Kind) Stop)
    (p q : SinkState)
    → (players others : List Player) → players ≡ others → (slots places : List PlainSlot) → slots ≡ places
    → ReportsRun wrapped last_text players result slots p q → ReportsRun wrapped last_text others result places p q
reports_as wrapped last_text result p q players others same slots places alike reports =
    subst₂ (λ (ps : List Player) (ss : List PlainSlot). ReportsRun wrapped last_text ps result ss p q) same alike reports

pub both_true : (a b : Bool) → IsTrue a → IsTrue b → IsTrue (a && b)
both_true true b left right = right
both_true false b left right = left

-- ---- before the first line

map-closed : {B : Type 0} (holds : B → ConvState) (convs : List B) → map closed (map holds convs) ≡ map (λ b. closed (holds b)) convs
map-closed holds [] = refl
map-closed holds (b ∷ convs) = ap (λ (t : List PlainSlot). closed (holds b) ∷ t) (map-closed holds convs)

length-map : {B C : Type 0} (f : B → C) (bs : List B) → length (map f bs) ≡ length bs
length-map f [] = refl
length-map f (b ∷ bs) = ap (λ (n : ℕ). suc n) (length-map f bs)

no_entries : (ledger : PlainLedger) → ledger.births ≡ [] → ledger.filed ≡ [] → record { births = []; filed = [] } ≡ ledger
no_entries ledger births filed = ap₂ (λ b f. record { births = b; filed = f }) (sym births) (sym filed)

pub sound_at_first : {B : Type 0} (holds : B → ConvState) (convs : List B) (names : List (List ℕ)) (modules : ℕ) (slots : List PlainSlot) (ledger : PlainLedger)
    → ((states : List ConvState) → length states ≡ 16 → IsSound names modules (map closed states) (record { births = []; filed = [] }))
    → length convs ≡ 16 → slots ≡ map (λ b. closed (holds b)) convs → ledger.births ≡ [] → ledger.filed ≡ []
    → IsSound names modules slots ledger
sound_at_first holds convs names modules slots ledger law sixteen are births filed =
    subst₂ (IsSound names modules) (map-closed holds convs ∙ sym are) (no_entries ledger births filed)
    (law (map holds convs) (length-map holds convs ∙ sixteen))

pub stand_at_first : {B : Type 0} (note : Notes) (holds : B → ConvState) (convs : List B) (slots : List PlainSlot) (ledger : PlainLedger)
    → ((states : List ConvState) → ModelsEvents note 17 (record { births = []; filed = [] }) (lists_of (map closed states)) [])
    → slots ≡ map (λ b. closed (holds b)) convs → ledger.births ≡ [] → ledger.filed ≡ []
    → ModelsEvents note 17 ledger (lists_of slots) []
stand_at_first note holds convs slots ledger law are births filed =
    subst₂ (λ (s : List PlainSlot) (l : PlainLedger). ModelsEvents note 17 l (lists_of s) []) (map-closed holds convs ∙ sym are) (no_entries ledger births filed)
    (law (map holds convs))

none_open : {B : Type 0} (holds : B → ConvState) (convs : List B) → NoneIsOpen (map (λ b. closed (holds b)) convs)
none_open holds [] = tt
none_open holds (b ∷ convs) = (refl, none_open holds convs)

pub none_open_at_first : {B : Type 0} (holds : B → ConvState) (convs : List B) (slots : List PlainSlot) → slots ≡ map (λ b. closed (holds b)) convs
    → NoneIsOpen slots
none_open_at_first holds convs slots are = subst NoneIsOpen (sym are) (none_open holds convs)

-- the world after the clock was set
pub under_now : (root : List ℕ) (old at now : PlainWorld) → at ≡ at_root root old → IsReset at now → now ≡ under_root root old
under_now root old at now is reset = reset.world_is ∙ ap (λ (w : PlainWorld). record w { clock = record w.clock { moment = 0; word = 0 } }) is

module _ {Kind : Type 0} (runs_so : RunTold Kind) (root : List ℕ) (world : Around) (input : Object SourceState) (output : Object SinkState)
    (result : Result (StreamEnding Kind) Stop) (ends : List PlainSlot) where
  begun_at : (setting : Setting) (slots : List PlainSlot) (now : PlainWorld) → now ≡ under_root root world.old
      → ModelsEvents (notes_of setting.players) 17 world.old.process.ledger (lists_of slots) []
      → runs_so setting result (state_of slots now) (state_of ends world.new) input.old input.new output.old output.new
      → IsBegunSo runs_so setting result (opening slots root world.old) world input output
  begun_at setting slots now under none_yet ran = record {
    end = state_of ends world.new;
    world_is = refl;
    runs = subst (λ (w : PlainWorld). runs_so setting result (state_of slots w) (state_of ends world.new) input.old input.new output.old output.new) under ran;
    none_yet = none_yet;
  }

  pub begun : (moments : Moments) (players : List Player) (slots : List PlainSlot) (given : Setup) (s : SessionSeen) (now : PlainWorld) (number : Code → ℕ → ℕ)
      → given.players ≡ players → given.slots ≡ slots → IsOpened root given world.old s → IsReset s.world now
      → runs_so (setting_at moments s number) result (state_of s.slots now) (state_of ends world.new) input.old input.new output.old output.new
      → IsBegunSo runs_so (record { players = players; delay = number; moments = moments }) result (opening slots root world.old) world input output
  begun moments players slots given s now number same_players same_slots opened reset ran =
      subst₂ (λ (ps : List Player) (ss : List PlainSlot).
      IsBegunSo runs_so (record { players = ps; delay = number; moments = moments }) result (opening ss root world.old) world input output)
      (opened.players ∙ same_players) (opened.slots ∙ same_slots)
      (begun_at (setting_at moments s number) s.slots now (under_now root world.old s.world now opened.world_is reset) opened.none_yet ran)

-- ---- by the status

module _ (setting : Setting) (start end : RunState) (x y : SourceState) (p q : SinkState) where
  abbrev NoneYet : Type 0
  NoneYet = ModelsEvents (notes_of setting.players) 17 start.world.process.ledger (lists_of start.slots) []

  done_by : (result : Result Ending Stop) → NoneYet → RunsScript setting result start end x y p q
      → exit_status (script_exit result) ≡ exit_status exits.Done → IsDone setting start end.world x y p q
  done_by (Ok Done) none_yet ran is = done_whole setting start end x y p q none_yet ran
  done_by (Ok ReadFault) none_yet ran is = absurd (omega (arith, is))
  done_by (Ok (Refused kind)) none_yet ran is = absurd (omega (arith, is))
  done_by (Err NoMemory) none_yet ran is = absurd (omega (arith, is))
  done_by (Err WriteFault) none_yet ran is = absurd (omega (arith, is))

  refused_by : (result : Result Ending Stop) → NoneYet → RunsScript setting result start end x y p q
      → exit_status (script_exit result) ≡ exit_status exits.LineRefused → IsRefused setting start end.world x y p q
  refused_by (Ok Done) none_yet ran is = absurd (omega (arith, is))
  refused_by (Ok ReadFault) none_yet ran is = absurd (omega (arith, is))
  refused_by (Ok (Refused kind)) none_yet ran is = refused_whole setting start end x y p q kind none_yet ran
  refused_by (Err NoMemory) none_yet ran is = absurd (omega (arith, is))
  refused_by (Err WriteFault) none_yet ran is = absurd (omega (arith, is))

  unread_by : (result : Result Ending Stop) → NoneYet → RunsScript setting result start end x y p q
      → exit_status (script_exit result) ≡ exit_status exits.ReadFault → IsUnread setting start end.world x y p q
  unread_by (Ok Done) none_yet ran is = absurd (omega (arith, is))
  unread_by (Ok ReadFault) none_yet ran is = unread_whole setting start end x y p q none_yet ran
  unread_by (Ok (Refused kind)) none_yet ran is = absurd (omega (arith, is))
  unread_by (Err NoMemory) none_yet ran is = absurd (omega (arith, is))
  unread_by (Err WriteFault) none_yet ran is = absurd (omega (arith, is))

module _ (setting : Setting) (status : ℕ) (slots : List PlainSlot) (root : List ℕ) (world : Around) (input : Object SourceState) (output : Object SinkState) where
  abbrev start : RunState
  start = opening slots root world.old

  pub done_of : Runs setting status slots root world input output → status ≡ exit_status exits.Done
      → IsDone setting (opening slots root world.old) world.new input.old input.new output.old output.new
  done_of (inl b) is = subst (λ (w : PlainWorld). IsDone setting start w input.old input.new output.old output.new) (sym b.world_is)
      (done_by setting start b.end input.old input.new output.old output.new b.result b.none_yet b.runs (sym b.is ∙ is))
  done_of (inr n) is = absurd (omega (arith, n.0, is))

  pub refused_of : Runs setting status slots root world input output → status ≡ exit_status exits.LineRefused
      → IsRefused setting (opening slots root world.old) world.new input.old input.new output.old output.new
  refused_of (inl b) is = subst (λ (w : PlainWorld). IsRefused setting start w input.old input.new output.old output.new) (sym b.world_is)
      (refused_by setting start b.end input.old input.new output.old output.new b.result b.none_yet b.runs (sym b.is ∙ is))
  refused_of (inr n) is = absurd (omega (arith, n.0, is))

  pub unread_of : Runs setting status slots root world input output → status ≡ exit_status exits.ReadFault
      → IsUnread setting (opening slots root world.old) world.new input.old input.new output.old output.new
  unread_of (inl b) is = subst (λ (w : PlainWorld). IsUnread setting start w input.old input.new output.old output.new) (sym b.world_is)
      (unread_by setting start b.end input.old input.new output.old output.new b.result b.none_yet b.runs (sym b.is ∙ is))
  unread_of (inr n) is = absurd (omega (arith, n.0, is))
