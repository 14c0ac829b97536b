-- What a module does, step by step, if all objects that it gets are modelled (this project's own).
use Rattle.std.specs.Prelude.{◌≡◌, ℕ, suc, Bool, true, false, not, ◌||◌, nat_lt, if◌then◌else◌, List, [], ◌∷◌, take, Option, Some, None, codes, length, unwrap_or}
use Rattle.pam_base.specs.declared.code.Code.{Code}
use Rattle.pam_base.specs.declared.code.Code.TheVariants.{ConvErr}
use Rattle.pam_base.specs.declared.style.Style.{Style}
use Rattle.pam_outside.specs.declared.held.LockKind.{LockKind}
use Rattle.pam_outside.specs.declared.vault.TheConstants.{MAX_FILE}
use Rattle.pam_outside.specs.Files.{file_at, file_put, with_lock, without_lock, VaultState}
use Rattle.pam_room.specs.item_store.specs.Items.{ItemTexts}
use Rattle.pam_room.specs.Call.{PlainCall}
use Rattle.pam_room.specs.State.{PlainProcess, PlainRoom, Scene, room_of, scene_of}
use Rattle.pam_room.specs.Plain.{plain_process, plain_transaction}
use Rattle.pam_room.specs.declared.process.Process.{Process}
use Rattle.pam_room.specs.declared.transaction.Transaction.{Transaction}
use Rattle.pam_outside.specs.Time.{ClockState}
use Rattle.conv_port.specs.Conv.{ConvState}
use Rattle.pam_room.specs.Module.{Locking, NamedData, Played, Plays, SeenRoom, Sight, a_call_later, answered, named_data, seen_of, sight_of, with_played}
use Rattle.pam_room.specs.Say.{AfterPrompt, speak, user_asked}
use Rattle.account_db.specs.declared.passwd.Passwd.{Passwd}
use Rattle.account_db.specs.declared.group.Group.{Group}
use Rattle.module_acts.specs.declared.content.Content.{Content}
use Rattle.module_acts.specs.declared.content.Content.TheVariants.{Absent}
use Rattle.pam_outside.specs.Paths.{path_of}
use Rattle.module_acts.specs.Content.{content_of, is_rooted}
use Rattle.module_acts.specs.Accounts.{Account, Known, account_in, account_limit, groups_in, nothing_known, passwds_in, shells_in}

-- how far a module is: what it sees of the room and of its data, what it knows of the account files, and what it sees
-- of the world
pub record Stage : Type 0 where
  pub room : SeenRoom
  pub held : List NamedData
  pub known : Known
  pub sight : Sight

-- the definition of the rest from a stage on
abbrev pub Act : Type 0
Act = Stage → Played

-- the stage with another room
abbrev pub in_room : SeenRoom → Stage → Stage
in_room room stage = record stage { room = room }

-- a code is returned, and nothing else happens
unfoldable pub answers : Code → Act
answers code stage = answered code stage.room stage.sight

-- a code that is already decided is returned; otherwise this is done
abbrev pub unless_answered : Option Code → Act → Act
unless_answered (Some code) act = answers code
unless_answered None act = act

-- ---- the user

-- USER is set, or CONV_ERR is returned at once
abbrev pub with_user : AfterPrompt → (List ℕ → Act) → Act
with_user asked act stage = if asked.refused then answered ConvErr asked.room stage.sight
    else act (unwrap_or asked.room.items.user []) (in_room asked.room stage)

-- the user is asked for, if USER isn't set (pam_get_user(3))
unfoldable pub asks_user : (List ℕ → Act) → Act
asks_user act stage = with_user (user_asked stage.room) act stage

-- the room after a text was shown, of which 512 bytes count; an empty one isn't shown
abbrev pub shown : Style → List ℕ → SeenRoom → SeenRoom
shown style [] room = room
shown style (b ∷ bs) room =
    (speak (record { style = style; text = take 512 (b ∷ bs) } ∷ []) room).room

-- a text is shown; it doesn't matter if the conversation fails
unfoldable pub shows : Style → List ℕ → Act → Act
shows style text act stage = act (in_room (shown style text stage.room) stage)

-- the items are seen
unfoldable pub sees_items : (ItemTexts → Act) → Act
sees_items act stage = act stage.room.items stage

-- ---- files

-- the calls of `Vault` after the next one
abbrev pub later : Sight → Sight
later sight = record sight { failing = λ n. sight.failing (suc n) }

-- one more call was made
abbrev pub called : Played → Played
called played = record played { locks = a_call_later played.locks; calls = suc played.calls }

-- what the next call finds, if it reads the file with this name
abbrev pub content_seen : List ℕ → ℕ → Sight → Content
content_seen name limit sight =
    content_of (sight.failing 0) limit (file_at (path_of sight.root name) sight.files)

abbrev pub reads_if : Bool → List ℕ → ℕ → (Content → Act) → Act
reads_if true name limit act stage =
    called (act (content_seen name limit stage.sight) (record stage { sight = later stage.sight }))
reads_if false name limit act stage = act Absent stage

-- a file is read by one call of `Vault`; if its name isn't a path from the root it is absent, without a call
unfoldable pub reads_file : List ℕ → ℕ → (Content → Act) → Act
reads_file name limit act stage = reads_if (is_rooted name) name limit act stage

-- what is seen after a call that is to set a file
abbrev pub replaced : Bool → List ℕ → List ℕ → Sight → Sight
replaced true path bytes sight = later sight
replaced false path bytes sight = record (later sight) { files = file_put path bytes sight.files }

-- the file with this name is set whole by one call of `Vault`, and stays as it was if that fails, or if the bytes are
-- more than can be read back
unfoldable pub replaces_file : List ℕ → List ℕ → (Bool → Act) → Act
replaces_file name bytes act stage =
    let fails = stage.sight.failing 0 || nat_lt MAX_FILE (length bytes) in
    let sight = replaced fails (path_of stage.sight.root name) bytes stage.sight in
    called (act (not fails) (record stage { sight = sight }))

-- ---- locks

-- a lock was taken before the rest
abbrev pub after_lock : List ℕ → LockKind → Locking → Locking
after_lock path kind locking calls locks = locking calls (with_lock path kind calls locks)

-- a lock was let go before the rest
abbrev pub after_letting_go : Bool → Locking → Locking
after_letting_go held locking calls locks = locking calls (without_lock held calls locks)

-- this lock was taken
abbrev pub took : List ℕ → LockKind → Played → Played
took path kind played = record played { locks = after_lock path kind played.locks }

-- a call that is to take a lock, given whether it is set to fail
abbrev pub holds_unless : Bool → List ℕ → LockKind → (Bool → Act) → Act
holds_unless true path kind act stage = called (act false (record stage { sight = later stage.sight }))
holds_unless false path kind act stage =
    called (took path kind (act true (record stage { sight = later stage.sight })))

abbrev pub holds_if : Bool → List ℕ → LockKind → (Bool → Act) → Act
holds_if true name kind act stage =
    holds_unless (stage.sight.failing 0) (path_of stage.sight.root name) kind act stage
holds_if false name kind act stage = act true stage

-- The lock of the file with this name is taken by one call of `Vault`, and the rest is told whether it is held; if the
-- name isn't a path from the root nothing is locked, without a call.
unfoldable pub holds_lock : List ℕ → LockKind → (Bool → Act) → Act
holds_lock name kind act stage = holds_if (is_rooted name) name kind act stage

-- the lock is let go here, if one was taken
unfoldable pub lets_go : Bool → Act → Act
lets_go held act stage =
    record (act stage) { locks = after_letting_go held (act stage).locks }

-- ---- the clock

-- the time is seen
unfoldable pub sees_moment : (ℕ → Act) → Act
sees_moment act stage = act stage.sight.clock.moment stage

-- one more random word was taken
abbrev pub drew : Played → Played
drew played = record played { draws = suc played.draws }

-- a random word is taken
unfoldable pub draws_word : (ℕ → Act) → Act
draws_word act stage = drew (act stage.sight.clock.word stage)

-- ---- account files

abbrev pub passwds_by : Option (Option (List Passwd)) → (Option (List Passwd) → Act) → Act
passwds_by (Some found) act stage = act found stage
passwds_by None act stage =
    let found = passwds_in (content_seen (codes "/etc/passwd") account_limit stage.sight) in
    called (act found (record stage {
      known = record stage.known { passwds = Some found };
      sight = later stage.sight;
    }))

-- /etc/passwd is read here, unless it was read before
unfoldable pub reads_passwds : (Option (List Passwd) → Act) → Act
reads_passwds act stage = passwds_by stage.known.passwds act stage

abbrev pub groups_by : Option (Option (List Group)) → (Option (List Group) → Act) → Act
groups_by (Some found) act stage = act found stage
groups_by None act stage =
    let found = groups_in (content_seen (codes "/etc/group") account_limit stage.sight) in
    called (act found (record stage {
      known = record stage.known { groups = Some found };
      sight = later stage.sight;
    }))

-- /etc/group is read here, unless it was read before
unfoldable pub reads_groups : (Option (List Group) → Act) → Act
reads_groups act stage = groups_by stage.known.groups act stage

-- a user's entry is looked up in /etc/passwd
abbrev pub finds_account : List ℕ → (Account → Act) → Act
finds_account user act = reads_passwds (λ entries. act (account_in user entries))

-- /etc/shells is read here
unfoldable pub reads_shells : (Option (List (List ℕ)) → Act) → Act
reads_shells act =
    reads_file (codes "/etc/shells") account_limit (λ content. act (shells_in content))

-- ---- modules

-- the stage at which a module begins
abbrev pub stage_of : Known → Scene → Stage
stage_of known s = record {
  room = seen_of s.room;
  held = named_data s.room.transaction.datums.live;
  known = known;
  sight = sight_of s;
}

-- a module does what its definition says, from any state
abbrev pub plays_by : (PlainCall → Act) → Plays
plays_by act call room held sight = act call (record {
  room = room;
  held = held;
  known = nothing_known;
  sight = sight;
})

-- what a module gets, as a scene: a transaction, and what its conversation, the files and the clock hold
abbrev pub scene_at : Transaction → ConvState → VaultState → ClockState → Process → Scene
scene_at transaction conv vault clock process =
    scene_of (room_of (plain_transaction transaction) conv) vault clock (plain_process process)

-- The module returned a code and left this, as its definition says.
pub record Acts (act : Act) (known : Known) (old : Scene) (code : Code) (new : Scene) : Type 0 where
  pub code_is : code ≡ (act (stage_of known old)).code
  pub scene_is : new ≡ with_played (act (stage_of known old)) old

-- The rest of the definition, from there on, does what the whole does from here, whatever is known
-- of the account files.
abbrev pub Reaches : (Act → Act) → Scene → Scene → Type 0
Reaches step old new =
    (act : Act) (known : Known) (code : Code) (end : Scene)
    → Acts act known new code end → Acts (step act) known old code end

-- A step gave this value: the rest of the definition, with this value, does what the whole does
-- from here.
abbrev pub Yields : {A : Type 0} → A → ((A → Act) → Act) → Scene → Scene → Type 0
Yields {A} value step old new =
    (act : A → Act) (known : Known) (code : Code) (end : Scene)
    → Acts (act value) known new code end → Acts (step act) known old code end

-- A step over files gave this value, and left the files so.
abbrev pub StepsTo : {A : Type 0} → ((A → Act) → Act) → A → Process → VaultState → VaultState
    → Type 0
StepsTo {A} step value process old new =
    (room : PlainRoom) (clock : ClockState)
    → Yields value step (scene_of room old clock (plain_process process))
    (scene_of room new clock (plain_process process))

-- The same for a step that may read account files, given what is known of them before and after it.
abbrev pub LooksTo : {A : Type 0} → ((A → Act) → Act) → A → Process → Known → VaultState → Known
    → VaultState → Type 0
LooksTo {A} step value process known old now new =
    (room : PlainRoom) (clock : ClockState) (act : A → Act) (code : Code) (end : Scene)
    → Acts (act value) now (scene_of room new clock (plain_process process)) code end
    → Acts (step act) known (scene_of room old clock (plain_process process)) code end

-- A step over files without a value left the files so.
abbrev pub StepsOn : (Act → Act) → VaultState → VaultState → Type 0
StepsOn step old new =
    (room : PlainRoom) (clock : ClockState) (process : PlainProcess)
    → Reaches step (scene_of room old clock process) (scene_of room new clock process)
