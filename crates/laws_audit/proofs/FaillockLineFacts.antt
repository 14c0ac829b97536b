-- The lines of pam_faillock among those that a run runs.
use Rattle.std.proofs.Common.{◌≡◌, ◌≢◌, ◌⊎◌, inl, inr, ◌<◌, ◌^◌, ℕ, List, [], ◌∷◌, map, Option, Some, None, unwrap_or, refl, ap, ◌∙◌, sym, subst}
use Rattle.std.specs.List.{AllByRecursion}
use Rattle.pam_room.specs.item_store.specs.Items.{ItemTexts}
use Rattle.pam_outside.specs.Files.{File, file_at}
use Rattle.pam_room.specs.Call.{PlainCall}
use Rattle.pam_room.specs.Module.{NamedData, Player, Plays, SeenRoom, Sight}
use Rattle.handler_chain.specs.FlatLines.{number_of_name}
use Rattle.control_words.specs.Module.{name_of_module}
use Rattle.dispatch_core.specs.Lines.{names_of}
use Rattle.pam_library.specs.Plays.{ModuleGets, AskedLine, LineLeads, LinesLead, answer_of, module_of_path, player_numbered}
use Rattle.mod_tally.specs.Faillock.{faillock_plays, new_failure}
use Rattle.mod_tally.specs.declared.tally.Failure.{Failure}
use Rattle.mod_tally.specs.Tally.{IsFailure}
use Rattle.mod_tally.specs.Recorded.{Deed, Does, Follow, IsWith, Served, cleared, deeds_of, left, recorded, failures_on_file, failures_by}
use Rattle.laws_audit.specs.Tallied.{CanRecord, CanRecordIf, FaillockAloneWrites, IsTallied, IsText, LeavesFile, LeavesFileIf, TalliedLine}
use Rattle.laws_audit.specs.Tallied.{Tallies, calls_in, counted, line_in, passed_by}

module _ (path : List ℕ) (players : List Player) (alone : FaillockAloneWrites path players)
    (one : (path : List ℕ) (call : PlainCall) (room : SeenRoom) (held : List NamedData) (sight : Sight) → (deed : Deed)
    × Does path call sight (faillock_plays call room held sight) deed)
    (writable : (moment : ℕ) (items : ItemTexts) → moment < 10 ^ 13 → IsText items.rhost → IsText items.tty → IsText items.service
    → unwrap_or items.service [] ≢ [] → IsFailure (new_failure moment items)) where
  -- lines run, each with what it did, that lead the file from one state to another
  pub record Led (before : Option (List ℕ)) (asked : List AskedLine) (after : Option (List ℕ)) : Type 0 where
    pub lines : List TalliedLine
    pub lines_are : map line_in lines ≡ asked
    pub each : AllByRecursion (IsTallied path players) lines
    pub follow : Follow path before (calls_in lines) after
    pub with_one : (interval : ℕ) → AllByRecursion (CanRecordIf interval players) asked → AllByRecursion (IsWith interval) (deeds_of (calls_in lines))

  -- what holds for all modules holds for one of these
  by_number : (number : Option ℕ) (p : Player) → player_numbered players number ≡ Some p → (p.plays ≡ faillock_plays) ⊎ LeavesFile path p.plays
  by_number None p e = absurd cc
  by_number (Some n) p e = alone n p e

  -- what a call records can be written, with its interval
  recorded_with : (interval : ℕ) (a : ModuleGets) (deed : Deed) → Does path a.call a.sight (faillock_plays a.call a.room a.held a.sight) deed → CanRecord interval a
      → IsWith interval deed
  recorded_with interval a left d can = tt
  recorded_with interval a (recorded i failure) d can =
      let items : ItemTexts = (faillock_plays a.call a.room a.held a.sight).room.items in (
        d.interval_is ∙ can.interval_is,
        subst IsFailure (sym d.failure_is)
            (writable a.sight.clock.moment items can.moment can.rhost can.tty can.service can.named),
      )
  recorded_with interval a cleared d can = tt

  -- a line that leaves the file, and what follows
  passes : (a : AskedLine) (rest : List AskedLine) (before now after : Option (List ℕ)) → IsTallied path players (passed_by a) → now ≡ before
      → Led now rest after → Led before (a ∷ rest) after
  passes a rest before now after leaves still l = record {
    lines = passed_by a ∷ l.lines;
    lines_are = ap (λ (others : List AskedLine). a ∷ others) l.lines_are;
    each = (leaves, l.each);
    follow = subst (λ (o : Option (List ℕ)). Follow path o (calls_in l.lines) after) still l.follow;
    with_one = λ interval can. l.with_one interval can.1;
  }

  -- a line of pam_faillock, and what follows
  counts : (p : Player) (a : AskedLine) (rest : List AskedLine) (before : List File) (after : Option (List ℕ))
      → module_of_path players a.visit.path ≡ Some p → p.plays ≡ faillock_plays
      → a.asked.sight.files ≡ before → a.visit.answer ≡ answer_of (faillock_plays a.asked.call a.asked.room a.asked.held a.asked.sight)
      → Led (file_at path (faillock_plays a.asked.call a.asked.room a.asked.held a.asked.sight).files) rest after → Led (file_at path before) (a ∷ rest) after
  counts p a rest before after there same at answered l =
      let did = one path a.asked.call a.asked.room a.asked.held a.asked.sight in
      let s : Served = record { call = a.asked.call; room = a.asked.room; held = a.asked.held; sight = a.asked.sight; deed = did.0 } in
      record {
        lines = counted a s ∷ l.lines;
        lines_are = ap (λ (others : List AskedLine). a ∷ others) l.lines_are;
        each = (
          record { player = p; module_is = there; is_faillock = same; call_is = refl; room_is = refl; held_is = refl; sight_is = refl; answer_is = answered },
          l.each,
        );
        follow = (ap (file_at path) at, did.1, l.follow);
        with_one = λ interval can. (recorded_with interval a.asked did.0 did.1 (can.0 p there same), l.with_one interval can.1);
      }

  by_plays : (p : Player) (a : AskedLine) (rest : List AskedLine) (before last : List File) → module_of_path players a.visit.path ≡ Some p
      → (p.plays ≡ faillock_plays) ⊎ LeavesFile path p.plays
      → LineLeads (Some p) a before (λ files. LinesLead players files rest last)
      → ((files : List File) → LinesLead players files rest last → Led (file_at path files) rest (file_at path last))
      → Led (file_at path before) (a ∷ rest) (file_at path last)
  by_plays p a rest before last e (inl same) v more =
      let got : ModuleGets = a.asked in
      counts p a rest before (file_at path last) e same v.0
      (subst (λ (plays : Plays). a.visit.answer ≡ answer_of (plays got.call got.room got.held got.sight)) same v.1)
      (subst (λ (plays : Plays). Led (file_at path (plays got.call got.room got.held got.sight).files) rest (file_at path last)) same (more _ v.2))
  by_plays p a rest before last e (inr leaves) v more =
      let got : ModuleGets = a.asked in
      passes a rest (file_at path before) (file_at path (p.plays got.call got.room got.held got.sight).files) (file_at path last)
      (subst (λ (o : Option Player). LeavesFileIf path o) (sym e) leaves) (leaves got.call got.room got.held got.sight ∙ ap (file_at path) v.0) (more _ v.2)

  by_module : (o : Option Player) (a : AskedLine) (rest : List AskedLine) (before last : List File) → module_of_path players a.visit.path ≡ o
      → LineLeads o a before (λ files. LinesLead players files rest last)
      → ((files : List File) → LinesLead players files rest last → Led (file_at path files) rest (file_at path last))
      → Led (file_at path before) (a ∷ rest) (file_at path last)
  by_module None a rest before last e v more = passes a rest _ _ _ (subst (λ (o : Option Player). LeavesFileIf path o) (sym e) tt) refl (more before v.1)
  by_module (Some p) a rest before last e v more = by_plays p a rest before last e
      (by_number (number_of_name (name_of_module a.visit.path) 0 (names_of players)) p e) v more

  pub lines_led : (asked : List AskedLine) (before last : List File) → LinesLead players before asked last
      → Led (file_at path before) asked (file_at path last)
  lines_led [] before last leads = record { lines = []; lines_are = refl; each = tt; follow = ap (file_at path) leads; with_one = λ interval can. tt }
  lines_led (a ∷ rest) before last leads = by_module (module_of_path players a.visit.path) a rest before last refl leads
      (λ files more. lines_led rest files last more)

  pub tallies : ((path : List ℕ) (interval : ℕ) (calls : List Served) (before after : Option (List ℕ)) (failures : List Failure)
      → Follow path before calls after → AllByRecursion (IsWith interval) (deeds_of calls)
      → failures_on_file before ≡ Some failures → failures_on_file after ≡ Some (failures_by interval (deeds_of calls) failures))
      → (before : List File) (asked : List AskedLine) (last : List File) → LinesLead players before asked last → Tallies path players before asked last
  tallies all before asked last leads =
      let l = lines_led asked before last leads in
      record {
        lines = l.lines;
        lines_are = l.lines_are;
        each = l.each;
        follow = l.follow;
        failures_by_deeds = λ interval failures one stood. all path interval (calls_in l.lines) _ _ failures l.follow one stood;
        if_can_record = λ interval failures can stood. all path interval (calls_in l.lines) _ _ failures l.follow (l.with_one interval can) stood;
      }
