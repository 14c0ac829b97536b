-- Modules that keep to the user's own entries.
use Rattle.std.proofs.Common.{◌≡◌, ◌≢◌, inl, inr, ℕ, List, [], ◌∷◌, Option, Some, codes, refl, ap, sym, ◌∙◌}
use Rattle.std.specs.List.{AllByRecursion}
use Rattle.std.specs.Option.{option_or}
use Rattle.pam_base.specs.declared.call.Func.{Func}
use Rattle.pam_base.specs.declared.call.Func.TheVariants.{Authenticate, SetCred, AcctMgmt, OpenSession, CloseSession, ChAuthTok}
use Rattle.pam_outside.specs.Files.{File, file_at}
use Rattle.pam_outside.specs.Paths.{path_of}
use Rattle.pam_room.specs.Module.{Plays, SeenRoom, Sight}
use Rattle.mod_basic.specs.Permit.{permit_plays, permitted}
use Rattle.mod_basic.specs.Deny.{deny_plays}
use Rattle.mod_basic.specs.Debug.{debug_plays}
use Rattle.mod_basic.specs.Rootok.{rootok_plays}
use Rattle.mod_basic.specs.Probe.{probe_plays}
use Rattle.mod_unix.specs.Unix.{unix_plays}
use Rattle.mod_tally.specs.Faillock.{faillock_plays, tally_name}
use Rattle.mod_tally.specs.Settings.{settings_of}
use Rattle.laws_module.specs.OwnEntry.{FilesStayUnlessChanged, OtherEntriesStay}
use Rattle.laws_module.specs.Tallies.{OtherFilesStay}
use Rattle.laws_denial.specs.Leaving.{LeavesUserAndFiles, OthersLeave}
use Rattle.laws_user.specs.Calls.{KeepsOthers, KeepsToOwn, Spared, TheseKeepToOwn, WritesOwn}
use Rattle.laws_user.specs.Users.{IsTimely, UsersDontMatterToEachOther}
use Rattle.laws_user.proofs.UserItemFacts.{faillock_keeps_user}
use Rattle.laws_user.proofs.AlikeModuleFacts.{call_at, same_shadow, user_there}

-- where all files stay
pub none_replaced : (func : Func) (folder user root : List ℕ) (before after : List File) → after ≡ before → KeepsOthers func folder user root before after
none_replaced func folder user root before after same = record {
  files = λ path other not. ap (file_at path) same;
  entries = λ differs es s. record {
    changed = es;
    shadow_is = same_shadow root before after es (ap (file_at (path_of root (codes "/etc/shadow"))) same) s;
    stay = λ other not. refl;
  };
}

permits : (func : Func) (user : List ℕ) (room : SeenRoom) → room.items.user ≡ Some user → (permitted func room).items.user ≡ Some user
permits Authenticate user room is = ap (λ (o : Option (List ℕ)). option_or o (Some (codes "nobody"))) is
permits SetCred user room is = is
permits AcctMgmt user room is = is
permits OpenSession user room is = is
permits CloseSession user room is = is
permits ChAuthTok user room is = is

module _ (both : UsersDontMatterToEachOther) (leave : OthersLeave) (entries_stay : OtherEntriesStay) (files_stay : FilesStayUnlessChanged) (stay : OtherFilesStay)
    (func : Func) (folder : List ℕ) (args : List (List ℕ)) where
  -- ---- pam_unix

  abbrev Writes : Func → Type 0
  Writes f = WritesOwn f folder args unix_plays

  unchanged : (f : Func) → f ≢ ChAuthTok → Writes f
  unchanged f not flags room held sight user is time =
      let left = files_stay (call_at f flags args) room held sight user not (user_there room.items.user user room is is) in
      record {
        others = none_replaced f folder user sight.root sight.files (unix_plays (call_at f flags args) room held sight).files left.files_are;
        user_is = left.user_is is;
      }

  changed : Writes ChAuthTok
  changed flags room held sight user is time =
      let left = entries_stay (call_at ChAuthTok flags args) room held sight user (user_there room.items.user user room is is) time in
      record {
        others = record {
          files = λ path other not. left.others.files path (λ e. not (sym e));
          entries = λ differs es s. left.others.entries es s;
        };
        user_is = left.user_is is;
      }

  unix_writes : (f : Func) → Writes f
  unix_writes ChAuthTok = changed
  unix_writes Authenticate = unchanged Authenticate (λ e. absurd cc)
  unix_writes SetCred = unchanged SetCred (λ e. absurd cc)
  unix_writes AcctMgmt = unchanged AcctMgmt (λ e. absurd cc)
  unix_writes OpenSession = unchanged OpenSession (λ e. absurd cc)
  unix_writes CloseSession = unchanged CloseSession (λ e. absurd cc)

  unix_keeps : KeepsToOwn func folder args unix_plays
  unix_keeps = record {
    looks = λ flags room held sight others user is time differs look. record {
      same = both unix_plays folder func flags args room held sight others user (inl refl) is time differs look;
      user_is = (unix_writes func flags room held sight user is time).user_is;
    };
    writes = unix_writes func;
  }

  -- ---- pam_faillock

  abbrev here_is : List ℕ → List ℕ → List ℕ
  here_is root user = path_of root (tally_name folder user)

  faillock_keeps : (settings_of args).folder ≡ folder → KeepsToOwn func folder args faillock_plays
  faillock_keeps same = record {
    looks = λ flags room held sight others user is time differs look. record {
      same = both faillock_plays folder func flags args room held sight others user (inr (refl, same)) is time differs look;
      user_is = faillock_keeps_user (call_at func flags args) room held sight user is;
    };
    writes = λ flags room held sight user is time.
        let asked = user_there room.items.user user room is is in
        let stays : (path : List ℕ) → here_is sight.root user ≢ path
        → file_at path (faillock_plays (call_at func flags args) room held sight).files ≡ file_at path sight.files =
        λ path other. stay (call_at func flags args) room held sight user path asked
        (λ e. other (ap (λ (d : List ℕ). path_of sight.root (tally_name d user)) (sym same) ∙ e)) in
        record {
          others = record {
            files = λ path other not. stays path other;
            entries = λ differs es s. record {
              changed = es;
              shadow_is = same_shadow sight.root sight.files (faillock_plays (call_at func flags args) room held sight).files es
                  (stays (path_of sight.root (codes "/etc/shadow")) differs) s;
              stay = λ other not. refl;
            };
          };
          user_is = faillock_keeps_user (call_at func flags args) room held sight user is;
        };
  }

  -- ---- modules that look at no file

  permit_keeps : KeepsToOwn func folder args permit_plays
  permit_keeps = record {
    looks = λ flags room held sight others user is time differs look.
        record { same = record { rest = refl; look = look }; user_is = permits func user room is };
    writes = λ flags room held sight user is time.
        record { others = none_replaced func folder user sight.root sight.files sight.files refl; user_is = permits func user room is };
  }

  deny_keeps : KeepsToOwn func folder args deny_plays
  deny_keeps = record {
    looks = λ flags room held sight others user is time differs look. record { same = record { rest = refl; look = look }; user_is = is };
    writes = λ flags room held sight user is time.
        record { others = none_replaced func folder user sight.root sight.files sight.files refl; user_is = is };
  }

  debug_keeps : KeepsToOwn func folder args debug_plays
  debug_keeps = record {
    looks = λ flags room held sight others user is time differs look. record { same = record { rest = refl; look = look }; user_is = is };
    writes = λ flags room held sight user is time.
        record { others = none_replaced func folder user sight.root sight.files sight.files refl; user_is = is };
  }

  rootok_keeps : KeepsToOwn func folder args rootok_plays
  rootok_keeps = record {
    looks = λ flags room held sight others user is time differs look. record { same = record { rest = refl; look = look }; user_is = is };
    writes = λ flags room held sight user is time.
        record { others = none_replaced func folder user sight.root sight.files sight.files refl; user_is = is };
  }

  -- pam_probe does the same whatever the function
  probe_keeps : LeavesUserAndFiles probe_plays → KeepsToOwn func folder args probe_plays
  probe_keeps leaves = record {
    looks = λ flags room held sight others user is time differs look.
        record { same = record { rest = refl; look = look }; user_is = (leaves flags args room held sight user is).user_is };
    writes = λ flags room held sight user is time. record {
      others = none_replaced func folder user sight.root sight.files sight.files refl;
      user_is = (leaves flags args room held sight user is).user_is;
    };
  }

  all_keep : AllByRecursion (KeepsToOwn func folder args) (unix_plays ∷ permit_plays ∷ deny_plays ∷ debug_plays ∷ rootok_plays ∷ probe_plays ∷ [])
  all_keep = (unix_keeps, (permit_keeps, (deny_keeps, (debug_keeps, (rootok_keeps, (probe_keeps leave.1.1.1.1.0, tt))))))

pub these_keep : UsersDontMatterToEachOther → OthersLeave → OtherEntriesStay → FilesStayUnlessChanged → OtherFilesStay → TheseKeepToOwn
these_keep both leave entries_stay files_stay stay = record {
  each = λ func folder args. all_keep both leave entries_stay files_stay stay func folder args;
  faillock = λ func folder args same. faillock_keeps both leave entries_stay files_stay stay func folder args same;
}
