-- That users don't matter to each other in a whole call that runs a stack (pam_authenticate(3),
-- pam_setcred(3), pam_acct_mgmt(3), pam_open_session(3), pam_close_session(3), pam_chauthtok(3);
-- the statement is this project's own).
use Rattle.std.specs.Prelude.{◌≡◌, ◌≢◌, ℕ, List, [], ◌∷◌, Some, codes, slice_get}
use Rattle.std.specs.List.{AllByRecursion}
use Rattle.pam_base.specs.declared.call.Func.{Func}
use Rattle.pam_base.specs.declared.call.Func.TheVariants.{ChAuthTok}
use Rattle.pam_base.specs.declared.code.Code.{Code}
use Rattle.pam_outside.specs.Files.{File, file_at}
use Rattle.pam_outside.specs.Paths.{path_of}
use Rattle.control_words.specs.declared.nodes.Rule.{Rule}
use Rattle.control_words.specs.Stack.{Stack}
use Rattle.handler_chain.specs.FlatLines.{module_of}
use Rattle.pam_room.specs.Call.{PlainCall}
use Rattle.pam_room.specs.Module.{NamedData, Played, Player, Plays, SeenRoom, Sight}
use Rattle.pam_room.specs.State.{PlainWorld}
use Rattle.account_db.specs.declared.shadow.Shadow.{Shadow}
use Rattle.dispatch_core.specs.Calls.{first_stack}
use Rattle.dispatch_core.specs.Lines.{names_of}
use Rattle.pam_handle.specs.Call.{Called}
use Rattle.pam_handle.specs.Handle.{PlainHandle}
use Rattle.pam_handle.specs.StackCalls.{stack_call}
use Rattle.mod_basic.specs.Permit.{permit_plays}
use Rattle.mod_basic.specs.Deny.{deny_plays}
use Rattle.mod_basic.specs.Debug.{debug_plays}
use Rattle.mod_basic.specs.Rootok.{rootok_plays}
use Rattle.mod_basic.specs.Probe.{probe_plays}
use Rattle.mod_unix.specs.Unix.{unix_plays}
use Rattle.mod_tally.specs.Faillock.{faillock_plays, tally_name}
use Rattle.mod_tally.specs.Settings.{settings_of}
use Rattle.laws_denial.specs.Kept_out.{EachLine}
use Rattle.laws_module.specs.Others.{IsShadow}
use Rattle.laws_module.specs.OwnEntry.{OthersIn}
use Rattle.laws_user.specs.Users.{IsTimely, LookSameTo, SameFor}

-- ---- modules

-- the same was returned and done, and the files look the same to the user, whose name still is USER
pub record Unmoved (func : Func) (folder user root : List ℕ) (p q : Played) : Type 0 where
  pub same : SameFor func folder user root p q
  pub user_is : q.room.items.user ≡ Some user

-- Of all files, this function of a module looks only at passwd and at the user's own entries: with
-- other files that look the same to the user, it returns and does the same, and leaves files that
-- look the same. Whatever the flags, the transaction in which USER is set, the conversation and
-- the accesses that fail; a user's tally isn't shadow itself.
abbrev pub LooksAtOwn : Func → List ℕ → List (List ℕ) → Plays → Type 0
LooksAtOwn func folder args plays =
    (flags : ℕ) (room : SeenRoom) (held : List NamedData) (sight : Sight) (others : List File)
    (user : List ℕ) → room.items.user ≡ Some user → IsTimely func sight.clock.moment →
    path_of sight.root (tally_name folder user) ≢ path_of sight.root (codes "/etc/shadow") →
    LookSameTo func folder user sight.root sight.files others →
    let call : PlainCall = record { func = func; flags = flags; args = args } in
    Unmoved func folder user sight.root (plays call room held (record sight { files = others }))
    (plays call room held sight)

-- whether only others' entries of a file with this path are sure to stay: a change of token
-- replaces shadow
abbrev pub IsNotReplaced : Func → List ℕ → List ℕ → Type 0
IsNotReplaced ChAuthTok root path = path_of root (codes "/etc/shadow") ≢ path
IsNotReplaced func root path = Unit {0}

-- All files stay except the user's own tally and, in a change of token, shadow; and in shadow, if it
-- can be read, the entries of all others do.
pub record KeepsOthers (func : Func) (folder user root : List ℕ) (before after : List File) : Type
    0 where
  pub files : (path : List ℕ) → path_of root (tally_name folder user) ≢ path
      → IsNotReplaced func root path → file_at path after ≡ file_at path before
  pub entries : path_of root (tally_name folder user) ≢ path_of root (codes "/etc/shadow")
      → (es : List Shadow) → IsShadow root before es → OthersIn user root es after

-- that, and the user's name still is USER
pub record Spared (func : Func) (folder user : List ℕ) (sight : Sight) (p : Played) : Type 0 where
  pub others : KeepsOthers func folder user sight.root sight.files p.files
  pub user_is : p.room.items.user ≡ Some user

-- Of all files, it changes only the user's own entries.
abbrev pub WritesOwn : Func → List ℕ → List (List ℕ) → Plays → Type 0
WritesOwn func folder args plays =
    (flags : ℕ) (room : SeenRoom) (held : List NamedData) (sight : Sight) (user : List ℕ) →
    room.items.user ≡ Some user → IsTimely func sight.clock.moment →
    let call : PlainCall = record { func = func; flags = flags; args = args } in
    Spared func folder user sight (plays call room held sight)

pub record KeepsToOwn (func : Func) (folder : List ℕ) (args : List (List ℕ)) (plays : Plays) : Type
    0 where
  pub looks : LooksAtOwn func folder args plays
  pub writes : WritesOwn func folder args plays

-- each function of pam_unix, and of the modules that look at no file, does; and so does pam_faillock
-- with this directory
pub record TheseKeepToOwn : Type 0 where
  pub each : (func : Func) (folder : List ℕ) (args : List (List ℕ))
      → AllByRecursion (KeepsToOwn func folder args)
      (unix_plays ∷ permit_plays ∷ deny_plays ∷ debug_plays ∷ rootok_plays ∷ probe_plays ∷ [])
  pub faillock : (func : Func) (folder : List ℕ) (args : List (List ℕ))
      → (settings_of args).folder ≡ folder → KeepsToOwn func folder args faillock_plays

-- ---- a stack

-- the stack that a call runs
abbrev pub stack_run : Func → PlainHandle → Stack
stack_run func h = first_stack func h.stacks

-- the module of a line, if there is one, keeps to the user's own entries
abbrev pub IsOwnLine : List Player → Func → List ℕ → ℕ → Rule → Type 0
IsOwnLine players func folder place rule = (number : ℕ) (player : Player)
    → module_of (names_of players) rule ≡ Some number → slice_get players number ≡ Some player
    → KeepsToOwn func folder rule.args player.plays

-- the world with other files
abbrev pub with_files : List File → PlainWorld → PlainWorld
with_files files w = record w { vault = record w.vault { files = files } }

-- Two calls return the same, leave the same transaction, with all that was asked and answered, and
-- the same world, except for files, which look the same to the user.
pub record EndAlike (func : Func) (folder user : List ℕ) (c d : Called) : Type 0 where
  pub code : d.code ≡ c.code
  pub handle : d.handle ≡ c.handle
  pub world : d.world ≡ with_files d.world.vault.files c.world
  pub look : LookSameTo func folder user c.world.process.root c.world.vault.files
      d.world.vault.files

-- a call over a stack of such lines, in a transaction in which USER is set, begun or resumed, over
-- files that look the same to the user
abbrev pub OthersDontMatterToCalls : Type 0
OthersDontMatterToCalls =
    (players : List Player) (number_of : Code → ℕ → ℕ) (func : Func) (flags : ℕ)
    (folder user : List ℕ) (h : PlainHandle) (w : PlainWorld) (others : List File) →
    EachLine (IsOwnLine players func folder) 1 (stack_run func h) →
    h.room.transaction.items.user ≡ Some user → IsTimely func w.clock.moment →
    path_of w.process.root (tally_name folder user)
    ≢ path_of w.process.root (codes "/etc/shadow") →
    LookSameTo func folder user w.process.root w.vault.files others →
    EndAlike func folder user (stack_call players number_of func flags h w)
    (stack_call players number_of func flags h (with_files others w))

-- Such a call changes no file but the user's tally, and a change of token only the user's entry of
-- shadow besides.
abbrev pub CallsWriteOwn : Type 0
CallsWriteOwn =
    (players : List Player) (number_of : Code → ℕ → ℕ) (func : Func) (flags : ℕ)
    (folder user : List ℕ) (h : PlainHandle) (w : PlainWorld) →
    EachLine (IsOwnLine players func folder) 1 (stack_run func h) →
    h.room.transaction.items.user ≡ Some user → IsTimely func w.clock.moment →
    KeepsOthers func folder user w.process.root w.vault.files
    (stack_call players number_of func flags h w).world.vault.files
