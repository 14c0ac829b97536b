-- Test cases, computed on the definitions.
use Rattle.std.proofs.Common.{◌≡◌, ℕ, false, List, [], ◌∷◌, ◌++◌, replicate, Option, Some, None, codes, refl}
use Rattle.pam_base.specs.declared.code.Code.TheVariants as returns
use Rattle.pam_base.specs.declared.call.Func.{Func}
use Rattle.pam_base.specs.declared.call.Func.TheVariants.{Authenticate, ChAuthTok}
use Rattle.pam_base.specs.Lines.{cut, lines_of}
use Rattle.pam_base.specs.Parts.{parts_of}
use Rattle.item_store.specs.Items.{no_texts}
use Rattle.pam_outside.specs.Files.{File, file_at, no_locks}
use Rattle.pam_outside.specs.declared.held.LockKind.TheVariants.{Record}
use Rattle.pam_outside.specs.Paths.{path_of}
use Rattle.pam_room.specs.State.{PlainRoom, new_transaction, room_of, scene_of}
use Rattle.pam_room.specs.Call.{PlainCall}
use Rattle.pam_room.specs.Module.{Played, Plays, failing_of, seen_of, sight_of}
use Rattle.account_db.specs.Entries.{entries_of}
use Rattle.account_db.specs.Shells.{without_end}
use Rattle.module_acts.specs.Content.{content_of}
use Rattle.module_acts.specs.Act.{answers, asks_user, holds_lock, lets_go, reads_file, reads_groups, reads_passwds, replaces_file, sees_items}
use Rattle.module_acts.specs.Steps.{sees_caller}
use Rattle.mod_unix.specs.Change.{takes_token}
use Rattle.mod_unix.specs.Look.{looks}
use Rattle.mod_history.specs.declared.history.Remembered.{Remembered}
use Rattle.mod_history.specs.History.{history_of, history_text}
use Rattle.mod_history.specs.Pwhistory.{renew_if_known, checks_token, locks_history, pwhistory_plays, remember_locked, remember_of, remembers, renews, stores_text, unsets_item}
use Rattle.mod_history.specs.Renewal.{renewed, renewed_hashes}
use Rattle.mod_history.specs.Securetty.{is_secure, securetty_plays}
use Rattle.mod_history.specs.Wheel.{wheel_plays}

abbrev call_of : Func → List (List ℕ) → PlainCall
call_of func args = record { func = func; flags = 0; args = args }

abbrev file : List ℕ → List ℕ → File
file name bytes = record { path = codes "/r" ++ name; bytes = bytes }

-- a user at a terminal, with a new password
abbrev room_with : List ℕ → Option (List ℕ) → PlainRoom
room_with user tty = let t = new_transaction 1 in
    room_of (record t { items = record no_texts { user = Some user; tty = tty; auth_tok = Some (codes "n") } }) (record { offers = []; waits = false; handed = [] })

-- with these files below /r/, a caller, and the numbers of the calls of `Vault` that are set to
-- fail
abbrev play : Plays → PlainCall → PlainRoom → List File → ℕ → List ℕ → Played
play plays call room files caller fails =
    plays call (seen_of room) [] (sight_of (scene_of room (record { files = files; locks = no_locks; calls = 0; fails = fails }) (record { moment = 0; word = 0; draws = 0 }) (record { ledger = record { births = []; filed = [] }; root = codes "/r/"; caller = caller })))

abbrev passwd : File
passwd = file (codes "/etc/passwd") (codes "root:x:0:0::/root:/bin/sh\njoe:H:1000:1000:Joe:/home/joe:/bin/sh\nann:x:1001:1001::/:/bin/sh\n")

-- ---- pam_wheel: root is asked for by joe, who is in the group, and by ann

abbrev group : File
group = file (codes "/etc/group") (codes "wheel:x:10:root,joe\n")

abbrev su : List (List ℕ) → ℕ → List ℕ → Played
su args caller fails = play wheel_plays (call_of Authenticate args) (room_with (codes "root") None) (passwd ∷ group ∷ []) caller fails

wheel_member : (su [] 1000 []).code ≡ returns.Ignore
unfolding answers asks_user reads_passwds reads_groups sees_caller content_of path_of failing_of entries_of parts_of lines_of cut
wheel_member = refl

wheel_other : (su [] 1001 []).code ≡ returns.PermDenied
unfolding answers asks_user reads_passwds reads_groups sees_caller content_of path_of failing_of entries_of parts_of lines_of cut
wheel_other = refl

wheel_trusts : (su (codes "trust" ∷ []) 1000 []).code ≡ returns.Success
unfolding answers asks_user reads_passwds reads_groups sees_caller content_of path_of failing_of entries_of parts_of lines_of cut
wheel_trusts = refl

wheel_denies : (su (codes "deny" ∷ codes "trust" ∷ []) 1000 []).code ≡ returns.PermDenied
unfolding answers asks_user reads_passwds reads_groups sees_caller content_of path_of failing_of entries_of parts_of lines_of cut
wheel_denies = refl

wheel_denies_no_other : (su (codes "deny" ∷ codes "trust" ∷ []) 1001 []).code ≡ returns.Success
unfolding answers asks_user reads_passwds reads_groups sees_caller content_of path_of failing_of entries_of parts_of lines_of cut
wheel_denies_no_other = refl

wheel_unknown : (su [] 7 []).code ≡ returns.UserUnknown
unfolding answers asks_user reads_passwds reads_groups sees_caller content_of path_of failing_of entries_of parts_of lines_of cut
wheel_unknown = refl

-- each file is read by one call, and each call fails in turn
wheel_calls : (su [] 1000 []).calls ≡ 2
unfolding answers asks_user reads_passwds reads_groups sees_caller content_of path_of failing_of entries_of parts_of lines_of cut
wheel_calls = refl

wheel_first_call : (su [] 1000 (1 ∷ [])).code ≡ returns.ServiceErr
unfolding answers asks_user reads_passwds reads_groups sees_caller content_of path_of failing_of entries_of parts_of lines_of cut
wheel_first_call = refl

wheel_second_call : (su [] 1000 (2 ∷ [])).code ≡ returns.ServiceErr
unfolding answers asks_user reads_passwds reads_groups sees_caller content_of path_of failing_of entries_of parts_of lines_of cut
wheel_second_call = refl

-- ---- pam_securetty: root at a terminal

abbrev secure : File
secure = file (codes "/etc/securetty") (codes "\ntty1 \n")

abbrev login : List ℕ → Option (List ℕ) → List ℕ → Played
login user tty fails = play securetty_plays (call_of Authenticate []) (room_with user tty) (passwd ∷ secure ∷ []) 0 fails

securetty_listed : (login (codes "root") (Some (codes "/dev/tty1")) []).code ≡ returns.Success
unfolding answers asks_user reads_passwds reads_file sees_items content_of path_of failing_of entries_of parts_of is_secure without_end lines_of cut
securetty_listed = refl

securetty_other : (login (codes "root") (Some (codes "pts/1")) []).code ≡ returns.AuthErr
unfolding answers asks_user reads_passwds reads_file sees_items content_of path_of failing_of entries_of parts_of is_secure without_end lines_of cut
securetty_other = refl

securetty_none : (login (codes "root") (Some (codes "/dev/")) []).code ≡ returns.AuthErr
unfolding answers asks_user reads_passwds reads_file sees_items content_of path_of failing_of entries_of parts_of is_secure without_end lines_of cut
securetty_none = refl

securetty_unset : (login (codes "root") None []).code ≡ returns.ServiceErr
unfolding answers asks_user reads_passwds reads_file sees_items content_of path_of failing_of entries_of parts_of is_secure without_end lines_of cut
securetty_unset = refl

securetty_joe : (login (codes "joe") None []).code ≡ returns.Success
unfolding answers asks_user reads_passwds reads_file sees_items content_of path_of failing_of entries_of parts_of is_secure without_end lines_of cut
securetty_joe = refl

securetty_first_call : (login (codes "root") (Some (codes "/dev/tty1")) (1 ∷ [])).code ≡ returns.ServiceErr
unfolding answers asks_user reads_passwds reads_file sees_items content_of path_of failing_of entries_of parts_of is_secure without_end lines_of cut
securetty_first_call = refl

securetty_second_call : (login (codes "root") (Some (codes "/dev/tty1")) (2 ∷ [])).code ≡ returns.ServiceErr
unfolding answers asks_user reads_passwds reads_file sees_items content_of path_of failing_of entries_of parts_of is_secure without_end lines_of cut
securetty_second_call = refl

-- ---- the history's form

abbrev line : List ℕ → List (List ℕ) → Remembered
line name hashes = record { name = name; hashes = hashes }

two_lines : List Remembered
two_lines = line (codes "joe") (codes "A" ∷ codes "B" ∷ []) ∷ line (codes "ann") [] ∷ []

read : history_of (codes "joe:A:B\nann") ≡ Some two_lines
unfolding history_of two_lines parts_of lines_of cut
read = refl

written : history_text two_lines ≡ codes "joe:A:B\nann\n"
unfolding history_text two_lines
written = refl

empty : history_of [] ≡ Some []
unfolding history_of lines_of cut
empty = refl

empty_line : history_of (codes "joe:A\n\n") ≡ None
unfolding history_of parts_of lines_of cut
empty_line = refl

empty_hash : history_of (codes "joe:A::B\n") ≡ None
unfolding history_of parts_of lines_of cut
empty_hash = refl

empty_name : history_of (codes ":A\n") ≡ None
unfolding history_of parts_of lines_of cut
empty_name = refl

twice : history_of (codes "joe:A\nann\njoe\n") ≡ None
unfolding history_of parts_of lines_of cut
twice = refl

-- ---- a line that is renewed

abbrev three : List (List ℕ)
three = codes "A" ∷ codes "B" ∷ codes "C" ∷ []

kept : renewed_hashes 2 (codes "H") three ≡ codes "C" ∷ codes "H" ∷ []
kept = refl

last_already : renewed_hashes 2 (codes "C") three ≡ codes "B" ∷ codes "C" ∷ []
last_already = refl

earlier : renewed_hashes 2 (codes "B") three ≡ codes "C" ∷ codes "B" ∷ []
earlier = refl

locked : renewed_hashes 10 (codes "!H") three ≡ three
locked = refl

disabled : renewed_hashes 10 (codes "*") three ≡ three
disabled = refl

no_hash : renewed_hashes 10 [] three ≡ three
no_hash = refl

first_hash : renewed 10 (codes "joe") (codes "H") (line (codes "ann") [] ∷ []) ≡ line (codes "ann") [] ∷ line (codes "joe") (codes "H" ∷ []) ∷ []
first_hash = refl

no_new_line : renewed 10 (codes "joe") (codes "!") (line (codes "ann") [] ∷ []) ≡ line (codes "ann") [] ∷ []
no_new_line = refl

remember_default : remember_of [] ≡ 10
unfolding remember_of
remember_default = refl

remember_last : remember_of (codes "remember=2" ∷ codes "remember=x" ∷ []) ≡ 10
unfolding remember_of
remember_last = refl

remember_four : remember_of (codes "remember=0002" ∷ []) ≡ 10
unfolding remember_of
remember_four = refl

-- ---- pam_pwhistory: joe, whose hash is in passwd, has a new password from an earlier line; root calls

abbrev history : File
history = file (codes "/etc/security/pamsess_history") (codes "joe:A:B\nann")

abbrev second : List (List ℕ) → List File → List ℕ → Played
second args files fails = play pwhistory_plays (call_of ChAuthTok (codes "use_authtok" ∷ args)) (room_with (codes "joe") None) (passwd ∷ files) 0 fails

abbrev in_history : Played → Option (List ℕ)
in_history p = file_at (codes "/r/etc/security/pamsess_history") p.files

pwhistory_code : (second (codes "remember=2" ∷ []) (history ∷ []) []).code ≡ returns.Success
unfolding answers asks_user checks_token looks renew_if_known renews takes_token remembers remember_of reads_file sees_items sees_caller locks_history holds_lock remember_locked lets_go stores_text replaces_file history_of history_text content_of path_of failing_of entries_of parts_of lines_of cut
pwhistory_code = refl

pwhistory_file : in_history (second (codes "remember=2" ∷ []) (history ∷ []) []) ≡ Some (codes "joe:B:H\nann\n")
unfolding answers asks_user checks_token looks renew_if_known renews takes_token remembers remember_of reads_file sees_items sees_caller locks_history holds_lock remember_locked lets_go stores_text replaces_file history_of history_text content_of path_of failing_of entries_of parts_of lines_of cut
pwhistory_file = refl

pwhistory_new : in_history (second [] [] []) ≡ Some (codes "joe:H\n")
unfolding answers asks_user checks_token looks renew_if_known renews takes_token remembers remember_of reads_file sees_items sees_caller locks_history holds_lock remember_locked lets_go stores_text replaces_file history_of history_text content_of path_of failing_of entries_of parts_of lines_of cut
pwhistory_new = refl

pwhistory_calls : (second [] (history ∷ []) []).calls ≡ 5
unfolding answers asks_user checks_token looks renew_if_known renews takes_token remembers remember_of reads_file sees_items sees_caller locks_history holds_lock remember_locked lets_go stores_text replaces_file history_of history_text content_of path_of failing_of entries_of parts_of lines_of cut
pwhistory_calls = refl

-- nothing is read with remember=0
pwhistory_none : (second (codes "remember=0" ∷ []) (history ∷ []) []).calls ≡ 1
unfolding answers asks_user checks_token looks renew_if_known renews takes_token remembers remember_of reads_file sees_items content_of path_of failing_of entries_of parts_of lines_of cut
pwhistory_none = refl

-- each call fails in turn, and the file is as before
pwhistory_first_call : (second [] (history ∷ []) (1 ∷ [])).code ≡ returns.AuthtokErr
unfolding answers asks_user checks_token looks renew_if_known reads_file content_of path_of failing_of
pwhistory_first_call = refl

pwhistory_second_call : (second [] (history ∷ []) (2 ∷ [])).code ≡ returns.AuthtokErr
unfolding answers asks_user checks_token looks renew_if_known renews takes_token remembers remember_of reads_file sees_items sees_caller content_of path_of failing_of entries_of parts_of lines_of cut
pwhistory_second_call = refl

-- without the lock the new password is unset
pwhistory_third_call : (second [] (history ∷ []) (3 ∷ [])).code ≡ returns.AuthtokErr
unfolding unsets_item answers asks_user checks_token looks renew_if_known renews takes_token remembers remember_of reads_file sees_items sees_caller locks_history holds_lock remember_locked lets_go stores_text replaces_file history_of history_text content_of path_of failing_of entries_of parts_of lines_of cut
pwhistory_third_call = refl

pwhistory_third_token : (second [] (history ∷ []) (3 ∷ [])).room.items.auth_tok ≡ None
unfolding unsets_item answers asks_user checks_token looks renew_if_known renews takes_token remembers remember_of reads_file sees_items sees_caller locks_history holds_lock remember_locked lets_go stores_text replaces_file history_of history_text content_of path_of failing_of entries_of parts_of lines_of cut
pwhistory_third_token = refl

pwhistory_fourth_call : (second [] (history ∷ []) (4 ∷ [])).code ≡ returns.AuthtokErr
unfolding answers asks_user checks_token looks renew_if_known renews takes_token remembers remember_of reads_file sees_items sees_caller locks_history holds_lock remember_locked lets_go stores_text replaces_file history_of history_text content_of path_of failing_of entries_of parts_of lines_of cut
pwhistory_fourth_call = refl

pwhistory_fifth_call : (second [] (history ∷ []) (5 ∷ [])).code ≡ returns.AuthtokErr
unfolding answers asks_user checks_token looks renew_if_known renews takes_token remembers remember_of reads_file sees_items sees_caller locks_history holds_lock remember_locked lets_go stores_text replaces_file history_of history_text content_of path_of failing_of entries_of parts_of lines_of cut
pwhistory_fifth_call = refl

pwhistory_fifth_file : in_history (second [] (history ∷ []) (5 ∷ [])) ≡ Some (codes "joe:A:B\nann")
unfolding answers asks_user checks_token looks renew_if_known renews takes_token remembers remember_of reads_file sees_items sees_caller locks_history holds_lock remember_locked lets_go stores_text replaces_file history_of history_text content_of path_of failing_of entries_of parts_of lines_of cut
pwhistory_fifth_file = refl

-- the third call takes the lock, and it is let go after the fifth
pwhistory_lock : ((second [] (history ∷ []) []).locks 0 no_locks).taken ≡ record { path = codes "/r/etc/.pwd.lock"; kind = Record; calls = 3 } ∷ []
unfolding answers asks_user checks_token looks renew_if_known renews takes_token remembers remember_of reads_file sees_items sees_caller locks_history holds_lock remember_locked lets_go stores_text replaces_file history_of history_text content_of path_of failing_of entries_of parts_of lines_of cut
pwhistory_lock = refl

pwhistory_let_go : ((second [] (history ∷ []) []).locks 0 no_locks).let_go ≡ 5
unfolding answers asks_user checks_token looks renew_if_known renews takes_token remembers remember_of reads_file sees_items sees_caller locks_history holds_lock remember_locked lets_go stores_text replaces_file history_of history_text content_of path_of failing_of entries_of parts_of lines_of cut
pwhistory_let_go = refl

pwhistory_damaged : (second [] (file (codes "/etc/security/pamsess_history") (codes "joe:A\n\n") ∷ []) []).code ≡ returns.AuthtokErr
unfolding answers asks_user checks_token looks renew_if_known renews takes_token remembers remember_of reads_file sees_items sees_caller history_of content_of path_of failing_of entries_of parts_of lines_of cut
pwhistory_damaged = refl

-- with use_authtok the new password is AUTHTOK: it is set, and has 1 to 512 bytes
abbrev with_token : Option (List ℕ) → Played
with_token token = let t = new_transaction 1 in
    play pwhistory_plays (call_of ChAuthTok (codes "use_authtok" ∷ [])) (room_of (record t { items = record no_texts { user = Some (codes "joe"); auth_tok = token } }) (record { offers = []; waits = false; handed = [] })) (passwd ∷ []) 0 []

token_unset : (with_token None).code ≡ returns.AuthtokErr
unfolding answers asks_user checks_token looks renew_if_known renews takes_token remembers remember_of reads_file sees_items sees_caller locks_history holds_lock remember_locked lets_go stores_text replaces_file history_of history_text content_of path_of failing_of entries_of parts_of lines_of cut
token_unset = refl

token_empty : (with_token (Some [])).code ≡ returns.AuthtokErr
unfolding answers asks_user checks_token looks renew_if_known renews takes_token remembers remember_of reads_file sees_items sees_caller locks_history holds_lock remember_locked lets_go stores_text replaces_file history_of history_text content_of path_of failing_of entries_of parts_of lines_of cut
token_empty = refl

token_of_512 : (with_token (Some (replicate 512 110))).code ≡ returns.Success
unfolding answers asks_user checks_token looks renew_if_known renews takes_token remembers remember_of reads_file sees_items sees_caller locks_history holds_lock remember_locked lets_go stores_text replaces_file history_of history_text content_of path_of failing_of entries_of parts_of lines_of cut
token_of_512 = refl

token_of_513 : (with_token (Some (replicate 513 110))).code ≡ returns.AuthtokErr
unfolding answers asks_user checks_token looks renew_if_known renews takes_token remembers remember_of reads_file sees_items sees_caller locks_history holds_lock remember_locked lets_go stores_text replaces_file history_of history_text content_of path_of failing_of entries_of parts_of lines_of cut
token_of_513 = refl

-- the first pass
pwhistory_first_pass : (play pwhistory_plays (record { func = ChAuthTok; flags = 0x4000; args = [] }) (room_with (codes "joe") None) [] 0 []).code ≡ returns.Success
unfolding answers
pwhistory_first_pass = refl
