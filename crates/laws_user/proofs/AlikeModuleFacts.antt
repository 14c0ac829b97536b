-- Calls of pam_unix and pam_faillock over files that look the same to the user.
use Rattle.std.proofs.Common.{◌≡◌, ◌≢◌, inl, inr, ℕ, Bool, true, false, true≢false, List, Option, Some, None, codes, refl, sym, ap, ◌∙◌, subst}
use Rattle.std.specs.Str.{bytes_eq}
use Rattle.std.proofs.lemmas.Slice.Eq.{bytes_eq-Decides}
use Rattle.pam_base.specs.declared.call.Func.{Func}
use Rattle.pam_base.specs.declared.call.Func.TheVariants.{Authenticate, SetCred, AcctMgmt, OpenSession, CloseSession, ChAuthTok}
use Rattle.pam_outside.specs.Files.{File, file_at}
use Rattle.pam_outside.specs.Paths.{path_of}
use Rattle.pam_room.specs.Call.{PlainCall}
use Rattle.pam_room.specs.Module.{NamedData, Plays, SeenRoom, Sight}
use Rattle.pam_room.specs.Say.{user_asked, user_or_ask}
use Rattle.account_db.specs.declared.shadow.Shadow.{Shadow}
use Rattle.mod_tally.specs.Faillock.{faillock_plays, tally_name}
use Rattle.mod_tally.specs.Settings.{settings_of}
use Rattle.mod_unix.specs.Unix.{unix_plays}
use Rattle.laws_module.specs.Others.{IsShadow}
use Rattle.laws_module.specs.OwnEntry.{FilesStayUnlessChanged, OtherEntriesStay, OthersDontMatterToChange, OthersDontMatterUnlessChanged}
use Rattle.laws_module.specs.Tallies.{OtherFilesStay, OtherTalliesDontMatter}
use Rattle.laws_user.specs.Users.{HasRoomFor, IsTimely, LookSame, LookSameTo, SameFor, UsersDontMatterToEachOther}

pub user_there : (found : Option (List ℕ)) (user : List ℕ) (room : SeenRoom) → found ≡ Some user → room.items.user ≡ Some user
    → (user_or_ask found room).room.items.user ≡ Some user
user_there None user room there is = absurd cc
user_there (Some name) user room there is = is

-- ---- files that didn't change, or not where it matters

pub same_shadow : (root : List ℕ) (files later : List File) (entries : List Shadow)
    → file_at (path_of root (codes "/etc/shadow")) later ≡ file_at (path_of root (codes "/etc/shadow")) files
    → IsShadow root files entries → IsShadow root later entries
same_shadow root files later entries still s = record { text = s.text; text_is = still ∙ s.text_is; entries_are = s.entries_are; fits = s.fits }

same_room : (func : Func) (user root : List ℕ) (files later : List File)
    → file_at (path_of root (codes "/etc/shadow")) later ≡ file_at (path_of root (codes "/etc/shadow")) files
    → HasRoomFor func user root files → HasRoomFor func user root later
same_room ChAuthTok user root files later still room = λ text hashes at. room text hashes (sym still ∙ at)
same_room Authenticate user root files later still room = tt
same_room SetCred user root files later still room = tt
same_room AcctMgmt user root files later still room = tt
same_room OpenSession user root files later still room = tt
same_room CloseSession user root files later still room = tt

-- what is at a path is the same in both, if the file that was set is the same, and all others stay
same_at : (set at : List ℕ) (files others later laters : List File) (b : Bool) → bytes_eq set at ≡ b → file_at set laters ≡ file_at set later
    → (set ≢ at → file_at at laters ≡ file_at at others) → (set ≢ at → file_at at later ≡ file_at at files) → file_at at others ≡ file_at at files
    → file_at at laters ≡ file_at at later
same_at set at files others later laters true is same stays still before =
    subst (λ (path : List ℕ). file_at path laters ≡ file_at path later) ((bytes_eq-Decides set at).0 is) same
same_at set at files others later laters false is same stays still before =
    let differs : set ≢ at = λ e. true≢false (sym ((bytes_eq-Decides set at).1 e) ∙ is) in
    stays differs ∙ before ∙ sym (still differs)

abbrev pub call_at : Func → ℕ → List (List ℕ) → PlainCall
call_at func flags args = record { func = func; flags = flags; args = args }

module _ (folder : List ℕ) (flags : ℕ) (args : List (List ℕ)) (room : SeenRoom) (held : List NamedData) (sight : Sight) (others : List File) (user : List ℕ)
    (set : room.items.user ≡ Some user) (differs : path_of sight.root (tally_name folder user) ≢ path_of sight.root (codes "/etc/shadow")) where
  abbrev there : Sight
  there = record sight { files = others }

  asked : (user_asked room).room.items.user ≡ Some user
  asked = user_there room.items.user user room set set

  -- ---- pam_unix

  module _ (unless_changed : OthersDontMatterUnlessChanged) (change : OthersDontMatterToChange) (entries_stay : OtherEntriesStay)
      (files_stay : FilesStayUnlessChanged)
    where
      abbrev Unix : Func → Type 0
      Unix func =
          SameFor func folder user sight.root (unix_plays (call_at func flags args) room held there) (unix_plays (call_at func flags args) room held sight)

      unchanged : (func : Func) → func ≢ ChAuthTok → LookSameTo func folder user sight.root sight.files others → Unix func
      unchanged func not look =
          let call = call_at func flags args in
          let here = (files_stay call room held sight user not asked).files_are in
          let away = (files_stay call room held there user not asked).files_are in
          record {
            rest = (unless_changed call room held sight others user not asked look.look.agree).rest;
            look = subst (λ (files : List File). LookSameTo func folder user sight.root files (unix_plays call room held there).files) (sym here)
                (subst (λ (files : List File). LookSameTo func folder user sight.root sight.files files) (sym away) look);
          }

      changed : IsTimely ChAuthTok sight.clock.moment → LookSameTo ChAuthTok folder user sight.root sight.files others → Unix ChAuthTok
      changed time look =
          let call = call_at ChAuthTok flags args in
          let both = change call room held sight others user refl asked (record { agree = look.look.agree; here = look.here; there = look.there; is_time = time }) in
          let tally = path_of sight.root (tally_name folder user) in
          let here = (entries_stay call room held sight user asked time).others.files tally differs in
          let away = (entries_stay call room held there user asked time).others.files tally differs in
          record {
            rest = both.0;
            look = record {
              look = record { agree = both.1.agree; tally = away ∙ look.look.tally ∙ sym here };
              here = both.1.here;
              there = both.1.there;
            };
          }

      by_unix : (func : Func) → IsTimely func sight.clock.moment → LookSameTo func folder user sight.root sight.files others → Unix func
      by_unix ChAuthTok time look = changed time look
      by_unix Authenticate time look = unchanged Authenticate (λ e. absurd cc) look
      by_unix SetCred time look = unchanged SetCred (λ e. absurd cc) look
      by_unix AcctMgmt time look = unchanged AcctMgmt (λ e. absurd cc) look
      by_unix OpenSession time look = unchanged OpenSession (λ e. absurd cc) look
      by_unix CloseSession time look = unchanged CloseSession (λ e. absurd cc) look

  -- ---- pam_faillock

  module _ (other_tallies : OtherTalliesDontMatter) (other_files : OtherFilesStay) (dir : (settings_of args).folder ≡ folder) (func : Func)
      (look : LookSameTo func folder user sight.root sight.files others)
    where
      abbrev call : PlainCall
      call = call_at func flags args

      abbrev own : List ℕ
      own = path_of sight.root (tally_name folder user)

      abbrev after : List File
      after = (faillock_plays call room held sight).files

      abbrev afters : List File
      afters = (faillock_plays call room held there).files

      here_stay : (path : List ℕ) → own ≢ path → file_at path after ≡ file_at path sight.files
      here_stay path other =
          other_files call room held sight user path asked (λ e. other (ap (λ (d : List ℕ). path_of sight.root (tally_name d user)) (sym dir) ∙ e))

      there_stay : (path : List ℕ) → own ≢ path → file_at path afters ≡ file_at path others
      there_stay path other =
          other_files call room held there user path asked (λ e. other (ap (λ (d : List ℕ). path_of sight.root (tally_name d user)) (sym dir) ∙ e))

      by_faillock : SameFor func folder user sight.root (faillock_plays call room held there) (faillock_plays call room held sight)
      by_faillock =
          let agree = look.look.agree in
          let same = other_tallies call room held sight others user asked (record {
            passwd = agree.passwd;
            tally = subst (λ (d : List ℕ). file_at (path_of sight.root (tally_name d user)) others ≡ file_at (path_of sight.root (tally_name d user))
                sight.files) (sym dir) look.look.tally;
          }) in
          let tally : file_at own afters ≡ file_at own after =
          subst (λ (d : List ℕ). file_at (path_of sight.root (tally_name d user)) afters ≡ file_at (path_of sight.root (tally_name d user)) after) dir same.tally
          in
          let passwd = path_of sight.root (codes "/etc/passwd") in
          let shadow = path_of sight.root (codes "/etc/shadow") in
          record {
            rest = same.rest;
            look = record {
              look = record {
                agree = record {
                  passwd = same_at own passwd sight.files others after afters (bytes_eq own passwd) refl tally (there_stay passwd) (here_stay passwd) agree.passwd;
                  entries = agree.entries;
                  first = same_shadow sight.root sight.files after agree.entries (here_stay shadow differs) agree.first;
                  later = agree.later;
                  second = same_shadow sight.root others afters agree.later (there_stay shadow differs) agree.second;
                  entry = agree.entry;
                };
                tally = tally;
              };
              here = same_room func user sight.root sight.files after (here_stay shadow differs) look.here;
              there = same_room func user sight.root others afters (there_stay shadow differs) look.there;
            };
          }

module _ (unless_changed : OthersDontMatterUnlessChanged) (change : OthersDontMatterToChange) (entries_stay : OtherEntriesStay)
    (files_stay : FilesStayUnlessChanged) (tallies : OtherTalliesDontMatter) (stay : OtherFilesStay) where
  pub users_dont_matter : UsersDontMatterToEachOther
  users_dont_matter plays folder func flags args room held sight others user (inl is) set time differs look =
      subst (λ (x : Plays). SameFor func folder user sight.root (x (call_at func flags args) room held (record sight { files = others }))
      (x (call_at func flags args) room held sight)) (sym is)
      (by_unix folder flags args room held sight others user set differs unless_changed change entries_stay files_stay func time look)
  users_dont_matter plays folder func flags args room held sight others user (inr both) set time differs look =
      subst (λ (x : Plays). SameFor func folder user sight.root (x (call_at func flags args) room held (record sight { files = others }))
      (x (call_at func flags args) room held sight)) (sym both.0)
      (by_faillock folder flags args room held sight others user set differs tallies stay both.1 func look)
