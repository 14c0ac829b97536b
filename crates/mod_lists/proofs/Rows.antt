-- Test cases, computed on the definitions.
use Rattle.std.proofs.Common.{◌≡◌, ℕ, false, List, [], ◌∷◌, Some, codes, refl}
use Rattle.pam_base.specs.declared.code.Code.TheVariants as returns
use Rattle.pam_base.specs.declared.call.Func.{Func}
use Rattle.pam_base.specs.declared.call.Func.TheVariants.{Authenticate, AcctMgmt}
use Rattle.pam_base.specs.declared.style.Style.TheVariants.{ErrorMsg}
use Rattle.pam_base.specs.Lines.{cut, lines_of}
use Rattle.item_store.specs.Items.{no_texts}
use Rattle.pam_outside.specs.Files.{File, no_locks}
use Rattle.pam_room.specs.State.{PlainRoom, new_transaction, room_of, scene_of}
use Rattle.pam_room.specs.Call.{PlainCall}
use Rattle.pam_room.specs.Module.{Played, Plays, failing_of, seen_of, sight_of}
use Rattle.pam_base.specs.Parts.{parts_of}
use Rattle.account_db.specs.Entries.{entries_of}
use Rattle.account_db.specs.Shells.{shells_of, without_end}
use Rattle.pam_outside.specs.Paths.{path_of}
use Rattle.module_acts.specs.Content.{content_of}
use Rattle.module_acts.specs.Act.{answers, asks_user, reads_file, reads_groups, reads_passwds, reads_shells, sees_items, shows}
use Rattle.mod_lists.specs.Condition.{condition_of}
use Rattle.mod_lists.specs.Listfile.{is_listed, listfile_plays}
use Rattle.mod_lists.specs.Nologin.{nologin_plays}
use Rattle.mod_lists.specs.Shells.{shells_plays}
use Rattle.mod_lists.specs.SucceedIf.{succeed_if_plays}

abbrev call_of : Func → List (List ℕ) → PlainCall
call_of func args = record { func = func; flags = 0; args = args }

-- joe, who has an account
abbrev passwd : File
passwd = record { path = codes "/r/etc/passwd"; bytes = codes "joe:x:1000:1000:Joe:/home/joe:/bin/sh\n" }

abbrev joe : PlainRoom
joe = let t = new_transaction 1 in room_of (record t { items = record no_texts { user = Some (codes "joe") } }) (record { offers = []; waits = false; handed = [] })

-- with these files below /r/, of whose calls those with these numbers are set to fail
abbrev play : Plays → PlainCall → List File → List ℕ → Played
play plays call files fails =
    plays call (seen_of joe) [] (sight_of (scene_of joe (record { files = files; locks = no_locks; calls = 0; fails = fails }) (record { moment = 0; word = 0; draws = 0 }) (record { ledger = record { births = []; filed = [] }; root = codes "/r/"; caller = 65534 })))

abbrev notice : File
notice = record { path = codes "/r/etc/nologin"; bytes = codes "closed" }

-- pam_nologin: the notice is shown to joe, by three calls of `Vault`; without a notice there are two
nologin_closed : (play nologin_plays (call_of AcctMgmt []) (passwd ∷ notice ∷ []) []).code ≡ returns.AuthErr
unfolding answers asks_user reads_file reads_passwds shows content_of path_of failing_of entries_of parts_of lines_of cut
nologin_closed = refl

nologin_said : (play nologin_plays (call_of AcctMgmt []) (passwd ∷ notice ∷ []) []).room.said ≡ record { style = ErrorMsg; text = codes "closed" } ∷ []
unfolding answers asks_user reads_file reads_passwds shows content_of path_of failing_of entries_of parts_of lines_of cut
nologin_said = refl

nologin_calls : (play nologin_plays (call_of AcctMgmt []) (passwd ∷ notice ∷ []) []).calls ≡ 3
unfolding answers asks_user reads_file reads_passwds shows content_of path_of failing_of entries_of parts_of lines_of cut
nologin_calls = refl

nologin_open : (play nologin_plays (call_of AcctMgmt []) (passwd ∷ []) []).code ≡ returns.Ignore
unfolding answers asks_user reads_file reads_passwds shows content_of path_of failing_of entries_of parts_of lines_of cut
nologin_open = refl

-- its third call fails: the account isn't known
nologin_fails : (play nologin_plays (call_of AcctMgmt []) (passwd ∷ notice ∷ []) (3 ∷ [])).code ≡ returns.ServiceErr
unfolding answers asks_user reads_file reads_passwds shows content_of path_of failing_of entries_of parts_of lines_of cut
nologin_fails = refl

-- pam_shells
shells_listed : (play shells_plays (call_of Authenticate []) (passwd ∷ record { path = codes "/r/etc/shells"; bytes = codes "# list\n/bin/sh \n" } ∷ []) []).code ≡ returns.Success
unfolding answers asks_user reads_file reads_passwds reads_shells content_of path_of failing_of entries_of parts_of shells_of without_end lines_of cut
shells_listed = refl

-- pam_listfile `item=user sense=deny file=/etc/no`: with joe in the file, without the file, and so with onerr=succeed
abbrev denies : List (List ℕ)
denies = codes "item=user" ∷ codes "sense=deny" ∷ codes "file=/etc/no" ∷ []

listfile_denied : (play listfile_plays (call_of Authenticate denies) (record { path = codes "/r/etc/no"; bytes = codes "joe" } ∷ []) []).code ≡ returns.AuthErr
unfolding answers asks_user reads_file sees_items content_of path_of failing_of is_listed without_end lines_of cut
listfile_denied = refl

listfile_absent : (play listfile_plays (call_of Authenticate denies) [] []).code ≡ returns.ServiceErr
unfolding answers asks_user reads_file sees_items content_of path_of failing_of is_listed without_end lines_of cut
listfile_absent = refl

listfile_succeeds : (play listfile_plays (call_of Authenticate (codes "onerr=succeed" ∷ denies)) [] []).code ≡ returns.Success
unfolding answers asks_user reads_file sees_items content_of path_of failing_of is_listed without_end lines_of cut
listfile_succeeds = refl

-- `apply=@wheel item=shell`: passwd, group and the list are read by one call each, though the entry is used twice
listfile_calls : (play listfile_plays (call_of Authenticate (codes "item=shell" ∷ codes "sense=allow" ∷ codes "file=/etc/sh" ∷ codes "apply=@wheel" ∷ []))
    (passwd ∷ record { path = codes "/r/etc/group"; bytes = codes "wheel:x:10:root,joe\n" } ∷ record { path = codes "/r/etc/sh"; bytes = codes "/bin/sh\n" } ∷ []) []).calls ≡ 3
unfolding answers asks_user reads_file reads_groups reads_passwds sees_items content_of path_of failing_of entries_of parts_of is_listed without_end lines_of cut
listfile_calls = refl

-- pam_succeed_if, with joe in wheel: the code, and how many calls of `Vault` are made
abbrev wheel : File
wheel = record { path = codes "/r/etc/group"; bytes = codes "wheel:x:10:root,joe\n" }

abbrev condition : List (List ℕ) → List ℕ → Played
condition args fails = play succeed_if_plays (call_of AcctMgmt args) (passwd ∷ wheel ∷ []) fails

abbrev is_a_user : List (List ℕ)
is_a_user = codes "uid" ∷ codes ">=" ∷ codes "1000" ∷ []

abbrev is_in_wheel : List (List ℕ)
is_in_wheel = codes "uid" ∷ codes ">=" ∷ codes "1000" ∷ codes "user" ∷ codes "ingroup" ∷ codes "wheel" ∷ []

succeed_if_holds : (condition is_in_wheel []).code ≡ returns.Success
unfolding answers asks_user reads_groups reads_passwds sees_items content_of path_of failing_of entries_of parts_of lines_of cut condition_of
succeed_if_holds = refl

-- passwd is read once, though two conditions need it
succeed_if_calls : (condition is_in_wheel []).calls ≡ 2
unfolding answers asks_user reads_groups reads_passwds sees_items content_of path_of failing_of entries_of parts_of lines_of cut condition_of
succeed_if_calls = refl

succeed_if_fails : (condition (codes "uid" ∷ codes "<" ∷ codes "1000" ∷ []) []).code ≡ returns.AuthErr
unfolding answers asks_user reads_groups reads_passwds sees_items content_of path_of failing_of entries_of parts_of lines_of cut condition_of
succeed_if_fails = refl

succeed_if_none : (condition [] []).code ≡ returns.Success
unfolding answers asks_user
succeed_if_none = refl

succeed_if_lacks_a_word : (condition (codes "uid" ∷ codes "ge" ∷ []) []).code ≡ returns.ServiceErr
unfolding answers asks_user
succeed_if_lacks_a_word = refl

-- the first call fails, and the second
succeed_if_first_call : (condition is_in_wheel (1 ∷ [])).code ≡ returns.ServiceErr
unfolding answers asks_user reads_groups reads_passwds sees_items content_of path_of failing_of entries_of parts_of lines_of cut condition_of
succeed_if_first_call = refl

succeed_if_second_call : (condition is_in_wheel (2 ∷ [])).code ≡ returns.ServiceErr
unfolding answers asks_user reads_groups reads_passwds sees_items content_of path_of failing_of entries_of parts_of lines_of cut condition_of
succeed_if_second_call = refl

-- no call is made for the second if one condition is enough
succeed_if_third_call : (condition is_a_user (2 ∷ [])).code ≡ returns.Success
unfolding answers asks_user reads_groups reads_passwds sees_items content_of path_of failing_of entries_of parts_of lines_of cut condition_of
succeed_if_third_call = refl

-- each call of the others fails in turn
nologin_first_call : (play nologin_plays (call_of AcctMgmt []) (passwd ∷ notice ∷ []) (1 ∷ [])).code ≡ returns.ServiceErr
unfolding answers asks_user reads_file reads_passwds shows content_of path_of failing_of entries_of parts_of lines_of cut
nologin_first_call = refl

nologin_second_call : (play nologin_plays (call_of AcctMgmt []) (passwd ∷ notice ∷ []) (2 ∷ [])).code ≡ returns.ServiceErr
unfolding answers asks_user reads_file reads_passwds shows content_of path_of failing_of entries_of parts_of lines_of cut
nologin_second_call = refl

abbrev listed : List ℕ → Played
listed fails = play shells_plays (call_of Authenticate []) (passwd ∷ record { path = codes "/r/etc/shells"; bytes = codes "/bin/sh\n" } ∷ []) fails

shells_first_call : (listed (1 ∷ [])).code ≡ returns.AuthErr
unfolding answers asks_user reads_file reads_passwds reads_shells content_of path_of failing_of entries_of parts_of shells_of without_end lines_of cut
shells_first_call = refl

shells_second_call : (listed (2 ∷ [])).code ≡ returns.AuthErr
unfolding answers asks_user reads_file reads_passwds reads_shells content_of path_of failing_of entries_of parts_of shells_of without_end lines_of cut
shells_second_call = refl

abbrev applied : List ℕ → Played
applied fails = play listfile_plays (call_of Authenticate (codes "item=shell" ∷ codes "sense=allow" ∷ codes "file=/etc/sh" ∷ codes "apply=@wheel" ∷ []))
    (passwd ∷ wheel ∷ record { path = codes "/r/etc/sh"; bytes = codes "/bin/sh\n" } ∷ []) fails

listfile_first_call : (applied (1 ∷ [])).code ≡ returns.ServiceErr
unfolding answers asks_user reads_file reads_groups reads_passwds sees_items content_of path_of failing_of entries_of parts_of is_listed without_end lines_of cut
listfile_first_call = refl

listfile_second_call : (applied (2 ∷ [])).code ≡ returns.ServiceErr
unfolding answers asks_user reads_file reads_groups reads_passwds sees_items content_of path_of failing_of entries_of parts_of is_listed without_end lines_of cut
listfile_second_call = refl

listfile_third_call : (applied (3 ∷ [])).code ≡ returns.ServiceErr
unfolding answers asks_user reads_file reads_groups reads_passwds sees_items content_of path_of failing_of entries_of parts_of is_listed without_end lines_of cut
listfile_third_call = refl
