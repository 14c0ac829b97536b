-- A transaction and the world, in two runs that are alike for its number: how a call changes them
-- while it runs.
use Rattle.std.proofs.Common.{◌≡◌, ℕ, false, nat_eq, List, [], ◌∷◌, ◌++◌, length, Option, Some, None, slice_get, refl, sym, ap, ◌∙◌, subst, append_assoc}
use Rattle.std.proofs.Math.Path.{fun_ext}
use Rattle.std.proofs.lemmas.List.{append-nil}
use Rattle.std.specs.List.{AllByRecursion}
use Rattle.pam_base.specs.declared.call.Func.{Func}
use Rattle.pam_base.specs.declared.code.Code.{Code}
use Rattle.pam_handle.specs.control_words.specs.declared.nodes.Rule.{Rule}
use Rattle.data_cleanup.specs.DataList.{PlainDataList, hold_all}
use Rattle.data_cleanup.specs.Cleanup.{Notes, data_replace, swept_list, receipts_for}
use Rattle.data_cleanup.specs.declared.datum.Birth.{Birth}
use Rattle.data_cleanup.specs.declared.receipt.Filed.{Filed}
use Rattle.pam_handle.specs.dispatch_core.specs.Lines.{answers_by, call_of, names_of}
use Rattle.pam_handle.specs.handler_chain.specs.FlatLines.{module_of}
use Rattle.pam_outside.specs.Files.{VaultState}
use Rattle.pam_outside.specs.Time.{ClockState, time_of}
use Rattle.pam_handle.specs.pam_room.specs.Call.{PlainCall}
use Rattle.pam_handle.specs.pam_room.specs.Module.{Played, Player, Plays, after_calls, births_of, failing_of, named_data, notes_of, played_in, seen_of, with_played}
use Rattle.pam_handle.specs.pam_room.specs.Serve.{Answered, answer_or_incomplete, at_work, played_by, serve_line, served, served_by, swept, visited}
use Rattle.pam_handle.specs.pam_room.specs.State.{PlainProcess, PlainRoom, PlainWorld, State, scene_in, with_scene}
use Rattle.pam_library.specs.Alike.{AreRecorded, Cleaned, IsOfBirth, IsRecorded, NoCallFails, Shown, births_on, data_without_ids, receipts_on, room_without_ids, shown_to}
use Rattle.pam_library.proofs.DataWithoutIdFacts.{births_added, named_without_ids, none_of_another, set_without_ids, unnumbered}
use Rattle.pam_library.proofs.Quiet.{quiet_after, quiet_with_files}
use Rattle.pam_library.proofs.RecordedDataFacts.{IsOwnFiled, cleanings, cleanings_without_ids, filed_of_births, filed_own, no_cleanings_of_another, receipts_filed, receipts_stay, set_recorded, still_of_births, still_own}
use Rattle.pam_library.proofs.ModuleTimeFacts.{draws_pass}

-- n is the number for which the two runs are compared, `number` that of the call
module _ (n number : ℕ) where
  -- what a call keeps of the world in which it began, and what another number sees of its cleanup log
  pub record Kept (start : PlainWorld) (vault : VaultState) (clock : ClockState) (p : PlainProcess) : Type 0 where
    pub quiet : NoCallFails vault
    pub clock_is : time_of clock ≡ time_of start.clock
    pub root_is : p.root ≡ start.process.root
    pub caller_is : p.caller ≡ start.process.caller
    pub filed : AllByRecursion (IsOfBirth p.ledger.births) p.ledger.filed
    pub added : List Birth
    pub births : p.ledger.births ≡ start.process.ledger.births ++ added
    pub more : List Filed
    pub filed_is : p.ledger.filed ≡ start.process.ledger.filed ++ more
    pub more_own : AllByRecursion (IsOwnFiled number p.ledger.births) more
    pub other_births : nat_eq number n ≡ false → births_on n p.ledger.births ≡ births_on n start.process.ledger.births
    pub other_receipts : nat_eq number n ≡ false → receipts_on n p.ledger ≡ receipts_on n start.process.ledger

  abbrev pub KeptIn : PlainWorld → PlainWorld → Type 0
  KeptIn start w = Kept start w.vault w.clock w.process

  abbrev pub RecordedIn : PlainRoom → PlainWorld → Type 0
  RecordedIn r w = AreRecorded number w.process.ledger.births r.transaction.handle r.transaction.datums

  pub record Twins (first second : PlainWorld) (a b : State) : Type 0 where
    pub room : room_without_ids a.room ≡ room_without_ids b.room
    pub world : shown_to n a.world ≡ shown_to n b.world
    pub first_kept : KeptIn first a.world
    pub second_kept : KeptIn second b.world
    pub first_data : RecordedIn a.room a.world
    pub second_data : RecordedIn b.room b.world

  -- ---- only the room changes, and not its module data

  pub record Touches (u : PlainRoom → PlainRoom) : Type 0 where
    pub same : (r : PlainRoom) → room_without_ids (u r) ≡ u (room_without_ids r)
    pub datums : (r : PlainRoom) → (u r).transaction.datums ≡ r.transaction.datums
    pub handle : (r : PlainRoom) → (u r).transaction.handle ≡ r.transaction.handle

  touched_data : (u : PlainRoom → PlainRoom) → Touches u → (births : List Birth) (r : PlainRoom)
      → AreRecorded number births r.transaction.handle r.transaction.datums
      → AreRecorded number births (u r).transaction.handle (u r).transaction.datums
  touched_data u t births r d = record {
    handle_is = t.handle r ∙ d.handle_is;
    live = subst (λ (l : PlainDataList). AllByRecursion (IsRecorded number births) l.live) (sym (t.datums r)) d.live;
    gone = subst (λ (l : PlainDataList). AllByRecursion (IsRecorded number births) l.gone) (sym (t.datums r)) d.gone;
  }

  pub touched : (u : PlainRoom → PlainRoom) → Touches u → (first second : PlainWorld) (a b : State) → Twins first second a b
      → Twins first second (record a { room = u a.room }) (record b { room = u b.room })
  touched u t first second a b w = record {
    room = t.same a.room ∙ ap u w.room ∙ sym (t.same b.room);
    world = w.world;
    first_kept = w.first_kept;
    second_kept = w.second_kept;
    first_data = touched_data u t a.world.process.ledger.births a.room w.first_data;
    second_data = touched_data u t b.world.process.ledger.births b.room w.second_data;
  }

  -- ---- a module is called

  -- its result, given what is the same in both
  abbrev played_of : Plays → PlainCall → PlainRoom → Shown → Played
  played_of plays call r shown = plays call (seen_of r) (named_data r.transaction.datums.live) (record { files = shown.files; failing = λ (k : ℕ). false; clock = shown.clock; root = shown.root; caller = shown.caller })

  played_is : (plays : Plays) (call : PlainCall) (s : State) → NoCallFails s.world.vault
      → played_in plays call (scene_in s) ≡ played_of plays call (room_without_ids s.room) (shown_to n s.world)
  played_is plays call s quiet =
      let names : named_data s.room.transaction.datums.live ≡ named_data (data_without_ids s.room.transaction.datums).live = sym (named_without_ids s.room.transaction.datums.live) in
      let failing : failing_of s.world.vault ≡ (λ (k : ℕ). false) = fun_ext quiet in
      λ i. plays call (seen_of s.room) (names i) (record { files = s.world.vault.files; failing = failing i; clock = time_of s.world.clock; root = s.world.process.root; caller = s.world.process.caller })

  abbrev pub after_play : Notes → Played → State → State
  after_play notes p s = swept notes (with_scene (with_played p (scene_in s)) s)

  abbrev born : Played → State → List Birth
  born p s = births_of (length s.world.process.ledger.births) s.room.transaction.handle s.room.transaction.serving p.births

  abbrev list_after : Played → State → PlainDataList
  list_after p s = hold_all s.room.transaction.datums (born p s)

  abbrev births_after : Played → State → List Birth
  births_after p s = s.world.process.ledger.births ++ born p s

  -- the data list and the room after a module's call, without ids
  abbrev list_next : Played → PlainRoom → PlainDataList
  list_next p r = hold_all r.transaction.datums (unnumbered r.transaction.handle r.transaction.serving p.births)

  abbrev room_next : Played → PlainRoom → PlainRoom
  room_next p r = record {
    transaction = record r.transaction {
      items = p.room.items;
      env = p.room.env;
      delay = p.room.delay;
      said = p.room.said;
      put_off = p.room.put_off;
      datums = swept_list (list_next p r);
    };
    conv = p.room.conv;
  }

  abbrev shown_next : Notes → Played → PlainRoom → Shown → Shown
  shown_next notes p r shown = record shown {
    files = p.files;
    births = shown.births ++ births_on n (unnumbered r.transaction.handle r.transaction.serving p.births);
    receipts = shown.receipts ++ cleanings n number notes data_replace (list_next p r).gone;
  }

  list_is : (p : Played) (s : State) → data_without_ids (list_after p s) ≡ list_next p (room_without_ids s.room)
  list_is p s = set_without_ids s.room.transaction.datums (length s.world.process.ledger.births) s.room.transaction.handle s.room.transaction.serving p.births

  room_is : (notes : Notes) (p : Played) (s : State) → room_without_ids (after_play notes p s).room ≡ room_next p (room_without_ids s.room)
  room_is notes p s =
      let list : data_without_ids (list_after p s) ≡ list_next p (room_without_ids s.room) = list_is p s in
      λ i. record {
        transaction = record s.room.transaction {
          items = p.room.items;
          env = p.room.env;
          delay = p.room.delay;
          said = p.room.said;
          put_off = p.room.put_off;
          datums = swept_list (list i);
        };
        conv = p.room.conv;
      }

  set_after : (p : Played) (s : State) → RecordedIn s.room s.world →
      AllByRecursion (IsRecorded number (births_after p s)) (list_after p s).live × AllByRecursion (IsRecorded number (births_after p s)) (list_after p s).gone
  set_after p s d = set_recorded number s.room.transaction.handle s.room.transaction.serving s.world.process.ledger.births s.room.transaction.datums p.births d.handle_is d.live d.gone

  receipts_are : (start : PlainWorld) (notes : Notes) (p : Played) (s : State) → KeptIn start s.world → RecordedIn s.room s.world →
      receipts_on n (after_play notes p s).world.process.ledger ≡ receipts_on n s.world.process.ledger ++ cleanings n number notes data_replace (list_after p s).gone
  receipts_are start notes p s k d =
      receipts_filed n number notes data_replace (length (births_after p s)) (births_after p s) s.world.process.ledger.filed (list_after p s).gone (set_after p s d).1
      ∙ ap (λ (l : List Cleaned). l ++ cleanings n number notes data_replace (list_after p s).gone) (receipts_stay n s.world.process.ledger.births (born p s) s.world.process.ledger.filed k.filed)

  world_is : (start : PlainWorld) (notes : Notes) (p : Played) (s : State) → KeptIn start s.world → RecordedIn s.room s.world →
      shown_to n (after_play notes p s).world ≡ shown_next notes p (room_without_ids s.room) (shown_to n s.world)
  world_is start notes p s k d =
      let births : births_on n (births_after p s) ≡ births_on n s.world.process.ledger.births ++ births_on n (unnumbered s.room.transaction.handle s.room.transaction.serving p.births) =
      births_added n s.world.process.ledger.births (length s.world.process.ledger.births) s.room.transaction.handle s.room.transaction.serving p.births in
      let receipts : receipts_on n (after_play notes p s).world.process.ledger ≡ receipts_on n s.world.process.ledger ++ cleanings n number notes data_replace (list_next p (room_without_ids s.room)).gone =
      receipts_are start notes p s k d
      ∙ ap (λ (l : List Cleaned). receipts_on n s.world.process.ledger ++ l)
      (sym (cleanings_without_ids n number notes data_replace (list_after p s).gone) ∙ ap (λ (l : PlainDataList). cleanings n number notes data_replace l.gone) (list_is p s)) in
      λ i. record { files = p.files; clock = draws_pass p.draws s.world.clock i; root = s.world.process.root; caller = s.world.process.caller; births = births i; receipts = receipts i }

  kept_after : (start : PlainWorld) (notes : Notes) (p : Played) (s : State) → KeptIn start s.world → RecordedIn s.room s.world
      → KeptIn start (after_play notes p s).world
  kept_after start notes p s k d = record {
    quiet = quiet_with_files p.files (p.locks s.world.vault.calls s.world.vault.locks) (after_calls p.calls s.world.vault) (quiet_after p.calls s.world.vault k.quiet);
    clock_is = draws_pass p.draws s.world.clock ∙ k.clock_is;
    root_is = k.root_is;
    caller_is = k.caller_is;
    filed = filed_of_births number notes data_replace (length (births_after p s)) (births_after p s) s.world.process.ledger.filed (list_after p s).gone
        (still_of_births s.world.process.ledger.births (born p s) s.world.process.ledger.filed k.filed) (set_after p s d).1;
    added = k.added ++ born p s;
    births = ap (λ (l : List Birth). l ++ born p s) k.births ∙ append_assoc start.process.ledger.births k.added (born p s);
    more = k.more ++ receipts_for notes data_replace (length (births_after p s)) (list_after p s).gone;
    filed_is = ap (λ (l : List Filed). l ++ receipts_for notes data_replace (length (births_after p s)) (list_after p s).gone) k.filed_is
        ∙ append_assoc start.process.ledger.filed k.more (receipts_for notes data_replace (length (births_after p s)) (list_after p s).gone);
    more_own = filed_own number notes data_replace (length (births_after p s)) (births_after p s) k.more (list_after p s).gone
        (still_own number s.world.process.ledger.births (born p s) k.more k.more_own) (set_after p s d).1;
    other_births = λ other.
        births_added n s.world.process.ledger.births (length s.world.process.ledger.births) s.room.transaction.handle s.room.transaction.serving p.births
        ∙ ap (λ (l : List Birth). births_on n s.world.process.ledger.births ++ l) (none_of_another n s.room.transaction.handle s.room.transaction.serving p.births (ap (λ (h : ℕ). nat_eq h n) d.handle_is ∙ other))
        ∙ append-nil (births_on n s.world.process.ledger.births)
        ∙ k.other_births other;
    other_receipts = λ other.
        receipts_are start notes p s k d
        ∙ ap (λ (l : List Cleaned). receipts_on n s.world.process.ledger ++ l) (no_cleanings_of_another n number notes data_replace (list_after p s).gone other)
        ∙ append-nil (receipts_on n s.world.process.ledger)
        ∙ k.other_receipts other;
  }

  data_after : (notes : Notes) (p : Played) (s : State) → RecordedIn s.room s.world → RecordedIn (after_play notes p s).room (after_play notes p s).world
  data_after notes p s d = record { handle_is = d.handle_is; live = (set_after p s d).0; gone = tt }

  play_twins : (first second : PlainWorld) (notes : Notes) (p q : Played) (a b : State) → p ≡ q → Twins first second a b
      → Twins first second (after_play notes p a) (after_play notes q b)
  play_twins first second notes p q a b same t =
      let room : room_without_ids a.room ≡ room_without_ids b.room = t.room in
      let world : shown_to n a.world ≡ shown_to n b.world = t.world in
      let rooms : room_next p (room_without_ids a.room) ≡ room_next q (room_without_ids b.room) = λ i. room_next (same i) (room i) in
      let worlds : shown_next notes p (room_without_ids a.room) (shown_to n a.world) ≡ shown_next notes q (room_without_ids b.room) (shown_to n b.world) = λ i. shown_next notes (same i) (room i) (world i) in
      record {
        room = room_is notes p a ∙ rooms ∙ sym (room_is notes q b);
        world = world_is first notes p a t.first_kept t.first_data ∙ worlds ∙ sym (world_is second notes q b t.second_kept t.second_data);
        first_kept = kept_after first notes p a t.first_kept t.first_data;
        second_kept = kept_after second notes q b t.second_kept t.second_data;
        first_data = data_after notes p a t.first_data;
        second_data = data_after notes q b t.second_data;
      }

  -- ---- a line is run

  -- two codes are the same, and the states after them are alike
  pub record AnswerTwins (first second : PlainWorld) (x y : Answered) : Type 0 where
    pub answer : x.answer ≡ y.answer
    pub state : Twins first second x.state y.state

  played_twins : (first second : PlainWorld) (players : List Player) (player : Player) (call : PlainCall) (a b : State) → Twins first second a b
      → AnswerTwins first second (played_by players player call a) (played_by players player call b)
  played_twins first second players player call a b t =
      let room : room_without_ids a.room ≡ room_without_ids b.room = t.room in
      let world : shown_to n a.world ≡ shown_to n b.world = t.world in
      let same : played_in player.plays call (scene_in a) ≡ played_in player.plays call (scene_in b) =
      played_is player.plays call a t.first_kept.quiet ∙ (λ i. played_of player.plays call (room i) (world i)) ∙ sym (played_is player.plays call b t.second_kept.quiet) in
      record {
        answer = ap (λ (p : Played). answer_or_incomplete p.room.put_off p.code) same;
        state = play_twins first second (notes_of players) (played_in player.plays call (scene_in a)) (played_in player.plays call (scene_in b)) a b same t;
      }

  served_by_twins : (first second : PlainWorld) (players : List Player) (found : Option Player) (k : ℕ) (call : PlainCall) (a b : State)
      → Twins first second a b → AnswerTwins first second (served_by players found k call a) (served_by players found k call b)
  served_by_twins first second players (Some player) k call a b t =
      played_twins first second players player call (at_work k a) (at_work k b)
      (touched (λ (r : PlainRoom). record r { transaction = record r.transaction { put_off = false; serving = k } }) (record { same = λ r. refl; datums = λ r. refl; handle = λ r. refl }) first second a b t)
  served_by_twins first second players None k call a b t = record { answer = refl; state = t }

  served_twins : (first second : PlainWorld) (players : List Player) (found : Option ℕ) (call : PlainCall) (a b : State) → Twins first second a b
      → AnswerTwins first second (served players found call a) (served players found call b)
  served_twins first second players (Some k) call a b t = served_by_twins first second players (slice_get players k) k call a b t
  served_twins first second players None call a b t = record { answer = refl; state = t }

  visited_twins : (first second : PlainWorld) (place : ℕ) (path : List ℕ) (x y : Answered) → AnswerTwins first second x y
      → AnswerTwins first second (visited place path x) (visited place path y)
  visited_twins first second place path x y t =
      let answer : x.answer ≡ y.answer = t.answer in
      let seen : Twins first second (visited place path x).state (visited place path (record y { answer = x.answer })).state =
      touched (λ (r : PlainRoom). record r { transaction = record r.transaction { trail = r.transaction.trail ++ record { place = place; path = path; answer = x.answer } ∷ [] } })
      (record { same = λ r. refl; datums = λ r. refl; handle = λ r. refl }) first second x.state y.state t.state in
      record {
        answer = answer;
        state = subst (λ (c : Code). Twins first second (visited place path x).state (visited place path (record y { answer = c })).state) answer seen;
      }

  -- a line that is run, as a pass sees it
  pub asked_twins : (first second : PlainWorld) (players : List Player) (func : Func) (flags : ℕ) (rule : Rule) (place : ℕ) (a b : State)
      → Twins first second a b →
      ((answers_by players func flags rule place a).answer ≡ (answers_by players func flags rule place b).answer)
      × Twins first second (answers_by players func flags rule place a).state (answers_by players func flags rule place b).state
  asked_twins first second players func flags rule place a b t =
      let found : Option ℕ = module_of (names_of players) rule in
      let call : PlainCall = call_of func flags rule in
      let twins : AnswerTwins first second (serve_line players found place rule.path call a) (serve_line players found place rule.path call b) =
      visited_twins first second place rule.path (served players found call a) (served players found call b) (served_twins first second players found call a b t) in
      (twins.answer, twins.state)
