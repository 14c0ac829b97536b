-- Calls that leave the failures of a user: those that count stay.
use Rattle.std.proofs.Common.{◌≡◌, ◌≢◌, ◌⊎◌, inl, inr, ◌<◌, ◌≤◌, ◌^◌, ℕ, Bool, true, false, List, [], ◌∷◌, ◌++◌, Option, Some, None, unwrap_or, refl}
use Rattle.std.proofs.Common.{sym, ap, ◌∙◌, subst}
use Rattle.std.specs.List.{AllByRecursion}
use Rattle.std.specs.Str.{bytes_eq}
use Rattle.std.proofs.lemmas.Slice.Eq.{bytes_eq-Decides}
use Rattle.pam_outside.specs.Files.{File, file_at}
use Rattle.pam_outside.specs.Time.{Time}
use Rattle.item_store.specs.Items.{ItemTexts}
use Rattle.control_words.specs.Module.{name_of_module}
use Rattle.handler_chain.specs.FlatLines.{number_of_name}
use Rattle.pam_room.specs.Call.{PlainCall}
use Rattle.pam_room.specs.Module.{NamedData, Player, Plays, SeenRoom, Sight}
use Rattle.dispatch_core.specs.Lines.{names_of}
use Rattle.pam_library.specs.Plays.{AreAskedAt, ModuleGets, AskedLine, LineLeads, LinesLead, module_of_path, player_numbered}
use Rattle.mod_tally.specs.declared.tally.Failure.{Failure}
use Rattle.mod_tally.specs.Faillock.{faillock_plays, from_host, from_terminal, new_failure}
use Rattle.mod_tally.specs.Recorded.{Deed, Does, Follow, IsWith, Served, cleared, deeds_of, failures_by, failures_on_file, left, recorded}
use Rattle.mod_tally.specs.Settings.{settings_of}
use Rattle.mod_tally.specs.Tally.{IsFailure, counting, latest}
use Rattle.laws_audit.specs.Others.{tally_path}
use Rattle.laws_audit.specs.Tallied.{FaillockAloneWrites, IsText, LeavesFile}
use Rattle.laws_lockout.specs.Lockout.{CanWrite}
use Rattle.laws_lockout.specs.Refused.{IsForFile, LeavesFailures, by_faillock}
use Rattle.laws_lockout.proofs.OwnFileFacts.{leaves}
use Rattle.laws_lockout.proofs.RecentFailureFacts.{Grows, any_recorded, one_after_other, unchanged}
use Rattle.laws_lockout.proofs.Within.{WithinIf}

-- a new failure has the time at which it is recorded
by_terminal : (now : ℕ) (tty service : List ℕ) → (from_terminal now tty service).moment ≡ now
by_terminal now [] service = refl
by_terminal now (b ∷ bs) service = refl

by_host : (now : ℕ) (rhost tty service : List ℕ) → (from_host now rhost tty service).moment ≡ now
by_host now [] tty service = by_terminal now tty service
by_host now (b ∷ bs) tty service = refl

pub new_moment : (now : ℕ) (items : ItemTexts) → (new_failure now items).moment ≡ now
new_moment now items = by_host now (unwrap_or items.rhost []) (unwrap_or items.tty []) (unwrap_or items.service [])

module _ (path : List ℕ) (players : List Player) (alone : FaillockAloneWrites path players)
    (one : (path : List ℕ) (call : PlainCall) (room : SeenRoom) (held : List NamedData) (sight : Sight)
    → (deed : Deed) × Does path call sight (faillock_plays call room held sight) deed)
    (all : (path : List ℕ) (interval : ℕ) (calls : List Served) (before after : Option (List ℕ)) (failures : List Failure)
    → Follow path before calls after → AllByRecursion (IsWith interval) (deeds_of calls) → failures_on_file before ≡ Some failures
    → failures_on_file after ≡ Some (failures_by interval (deeds_of calls) failures))
    (writable : (moment : ℕ) (items : ItemTexts) → moment < 10 ^ 13 → IsText items.rhost → IsText items.tty → IsText items.service
    → unwrap_or items.service [] ≢ [] → IsFailure (new_failure moment items))
    (interval last : ℕ) where
  -- the failures in the file after some calls
  pub record Stand (failures : List Failure) (after : Option (List ℕ)) : Type 0 where
    pub are : List Failure
    pub stood : failures_on_file after ≡ Some are
    pub grows : Grows interval last 0 failures are

  -- ---- one line of pam_faillock

  module _ (a : ModuleGets) (failures : List Failure) (stood : failures_on_file (file_at path a.sight.files) ≡ Some failures) (late : latest failures ≤ last)
      (now : a.sight.clock.moment ≤ last) (within : (settings_of a.call.args).interval ≡ interval) where
    still : file_at path (by_faillock a).files ≡ file_at path a.sight.files → Stand failures (file_at path (by_faillock a).files)
    still same = record { are = failures; stood = ap failures_on_file same ∙ stood; grows = unchanged interval last failures late }

    by_deed : LeavesFailures a → (deed : Deed) → Does path a.call a.sight (by_faillock a) deed → Stand failures (file_at path (by_faillock a).files)
    by_deed leaves left does = still does
    by_deed leaves (recorded j f) does =
        let items : ItemTexts = (by_faillock a).room.items in
        let c : CanWrite a = leaves.can does.task in
        let s : Served = record { call = a.call; room = a.room; held = a.held; sight = a.sight; deed = recorded j f } in
        let written : IsFailure f =
        subst IsFailure (sym does.failure_is) (writable a.sight.clock.moment items c.moment c.rhost c.tty c.service c.named) in
        let time : f.moment ≡ a.sight.clock.moment = ap (λ (g : Failure). g.moment) does.failure_is ∙ new_moment a.sight.clock.moment items in
        record {
          are = counting interval (failures ++ f ∷ []);
          stood = all path interval (s ∷ []) (file_at path a.sight.files) (file_at path (by_faillock a).files) failures (refl, does, refl)
              ((does.interval_is ∙ within, written), tt) stood;
          grows = any_recorded interval last failures f late (subst (λ (t : ℕ). t ≤ last) (sym time) now);
        }
    by_deed leaves cleared does = elim does.allowed as (λ x. Stand failures (file_at path (by_faillock a).files)) [
      | inl task ↦ absurd (leaves.clears_not (inl task) does.code_is)
      | inr both ↦ absurd (leaves.clears_not (inr both.0) does.code_is)
    ]

    -- another user's tally isn't this file
    by_path : (user : List ℕ) → (by_faillock a).room.items.user ≡ Some user
        → (tally_path a.sight.root (settings_of a.call.args).folder user ≡ path → LeavesFailures a)
        → (same : Bool) → bytes_eq (tally_path a.sight.root (settings_of a.call.args).folder user) path ≡ same
        → Stand failures (file_at path (by_faillock a).files)
    by_path user is for_file true same =
        let did = one path a.call a.room a.held a.sight in
        by_deed (for_file ((bytes_eq-Decides (tally_path a.sight.root (settings_of a.call.args).folder user) path).0 same)) did.0 did.1
    by_path user is for_file false differs =
        still ((leaves path a.call a.room a.held a.sight).file_is (λ other there.
        let both : ◌≡◌ {A = Option (List ℕ)} (Some user) (Some other) = sym is ∙ there in
        let who : user ≡ other = cc in
        subst (λ (u : List ℕ). bytes_eq (tally_path a.sight.root (settings_of a.call.args).folder u) path ≡ false) who differs))

    by_user : (o : Option (List ℕ)) → (by_faillock a).room.items.user ≡ o
        → ((user : List ℕ) → (by_faillock a).room.items.user ≡ Some user → tally_path a.sight.root (settings_of a.call.args).folder user ≡ path → LeavesFailures a)
        → Stand failures (file_at path (by_faillock a).files)
    by_user None is for_file =
        still ((leaves path a.call a.room a.held a.sight).file_is (λ other there.
        let both : ◌≡◌ {A = Option (List ℕ)} None (Some other) = sym is ∙ there in
        absurd cc))
    by_user (Some user) is for_file =
        by_path user is (for_file user is) (bytes_eq (tally_path a.sight.root (settings_of a.call.args).folder user) path) refl

  -- ---- lines one after another

  abbrev pub LeavesIf : AskedLine → Type 0
  LeavesIf a = IsForFile players path a → LeavesFailures a.asked

  by_number : (number : Option ℕ) (p : Player) → player_numbered players number ≡ Some p → (p.plays ≡ faillock_plays) ⊎ LeavesFile path p.plays
  by_number None p e = absurd cc
  by_number (Some n) p e = alone n p e

  on_from : (failures : List Failure) (between after : Option (List ℕ)) (s : Stand failures between) → Stand s.are after → Stand failures after
  on_from failures between after s t =
      record { are = t.are; stood = t.stood; grows = one_after_other interval last 0 0 failures s.are t.are s.grows t.grows }

  abbrev Onward : List AskedLine → List File → Type 0
  Onward rest end = (files : List File) (failures : List Failure) → LinesLead players files rest end → failures_on_file (file_at path files) ≡ Some failures
      → latest failures ≤ last → Stand failures (file_at path end)

  by_plays : (p : Player) (a : AskedLine) (rest : List AskedLine) (files end : List File) (failures : List Failure)
      → module_of_path players a.visit.path ≡ Some p
      → (p.plays ≡ faillock_plays) ⊎ LeavesFile path p.plays → LineLeads (Some p) a files (λ others. LinesLead players others rest end)
      → failures_on_file (file_at path files) ≡ Some failures → latest failures ≤ last → LeavesIf a → WithinIf players interval a
      → a.asked.sight.clock.moment ≤ last → Onward rest end → Stand failures (file_at path end)
  by_plays p a rest files end failures there (inl same) leads stood late for_file within now more =
      let got : ModuleGets = a.asked in
      let here : Stand failures (file_at path (by_faillock got).files) =
      by_user got failures (ap (λ (fs : List File). failures_on_file (file_at path fs)) leads.0 ∙ stood) late now (within p there same)
      (by_faillock got).room.items.user refl
      (λ user is path_is. for_file (record { player = p; module_is = there; is_faillock = same; user = user; user_is = is; path_is = path_is })) in
      let next : LinesLead players (by_faillock got).files rest end =
      subst (λ (plays : Plays). LinesLead players (plays got.call got.room got.held got.sight).files rest end) same leads.2 in
      on_from failures (file_at path (by_faillock got).files) (file_at path end) here (more (by_faillock got).files here.are next here.stood here.grows.late)
  by_plays p a rest files end failures there (inr leaves) leads stood late for_file within now more =
      let got : ModuleGets = a.asked in
      let still : file_at path (p.plays got.call got.room got.held got.sight).files ≡ file_at path files =
      leaves got.call got.room got.held got.sight ∙ ap (file_at path) leads.0 in
      more (p.plays got.call got.room got.held got.sight).files failures leads.2 (ap failures_on_file still ∙ stood) late

  by_module : (o : Option Player) (a : AskedLine) (rest : List AskedLine) (files end : List File) (failures : List Failure)
      → module_of_path players a.visit.path ≡ o
      → LineLeads o a files (λ others. LinesLead players others rest end)
      → failures_on_file (file_at path files) ≡ Some failures → latest failures ≤ last → LeavesIf a → WithinIf players interval a
      → a.asked.sight.clock.moment ≤ last → Onward rest end → Stand failures (file_at path end)
  by_module None a rest files end failures there leads stood late for_file within now more = more files failures leads.1 stood late
  by_module (Some p) a rest files end failures there leads stood late for_file within now more =
      by_plays p a rest files end failures there (by_number (number_of_name (name_of_module a.visit.path) 0 (names_of players)) p there) leads stood late
      for_file within now more

  pub lines_leave : (time : Time) (asked : List AskedLine) → AllByRecursion LeavesIf asked → AllByRecursion (WithinIf players interval) asked
      → AreAskedAt time asked → time.moment ≤ last → (end : List File) → Onward asked end
  lines_leave time [] for_file within at now end files failures leads stood late =
      record {
        are = failures;
        stood = ap (λ (fs : List File). failures_on_file (file_at path fs)) leads ∙ stood;
        grows = unchanged interval last failures late;
      }
  lines_leave time (a ∷ rest) for_file within at now end files failures leads stood late =
      by_module (module_of_path players a.visit.path) a rest files end failures refl leads stood late for_file.0 within.0
      (subst (λ (t : Time). t.moment ≤ last) (sym at.0) now) (lines_leave time rest for_file.1 within.1 at.1 now end)
