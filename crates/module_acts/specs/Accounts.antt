-- The account files (passwd(5), group(5), shells(5)) as a module reads them: each is read once in a
-- call, and what was found is used for the rest of the call.
use Rattle.std.specs.Prelude.{ℕ, List, Option, Some, None, unwrap_or}
use Rattle.std.specs.Result.{result_ok}
use Rattle.account_db.specs.declared.passwd.Passwd.{Passwd}
use Rattle.account_db.specs.declared.group.Group.{Group}
use Rattle.account_db.specs.Passwd.{entry_of, passwds_of}
use Rattle.account_db.specs.Group.{groups_of}
use Rattle.account_db.specs.Shells.{shells_of}
use Rattle.module_acts.specs.declared.content.Content.{Content}
use Rattle.module_acts.specs.declared.content.Content.TheVariants.{Absent, Unreadable, Holds}

-- the maximum number of bytes of an account file
abbrev pub account_limit : ℕ
account_limit = 1048576

-- the entries of a file, unless it can't be read: one that doesn't exist, or has a malformed line, can't be read either
abbrev pub passwds_in : Content → Option (List Passwd)
passwds_in (Holds text) = result_ok (passwds_of text)
passwds_in Absent = None
passwds_in Unreadable = None

abbrev pub groups_in : Content → Option (List Group)
groups_in (Holds text) = result_ok (groups_of text)
groups_in Absent = None
groups_in Unreadable = None

abbrev pub shells_in : Content → Option (List (List ℕ))
shells_in (Holds text) = Some (shells_of text)
shells_in Absent = None
shells_in Unreadable = None

-- what was read so far, if it was, and what was found: the entries, unless the file can't be read
pub record Known : Type 0 where
  pub passwds : Option (Option (List Passwd))
  pub groups : Option (Option (List Group))

-- nothing yet
abbrev pub nothing_known : Known
nothing_known = record { passwds = None; groups = None }

-- what was found, once a file was read
abbrev pub known_passwds : Known → Option (List Passwd)
known_passwds known = unwrap_or known.passwds None

abbrev pub known_groups : Known → Option (List Group)
known_groups known = unwrap_or known.groups None

-- a user's entry; also none if the file can't be read
abbrev pub entry_known : List ℕ → Option (List Passwd) → Option Passwd
entry_known user (Some entries) = entry_of user entries
entry_known user None = None

-- a user's account: there is an entry, there is none, or the file can't be read
pub data Account : Type 0 where
  found : Passwd → Account
  missing : Account
  unreadable : Account

abbrev pub account_or_missing : Option Passwd → Account
account_or_missing (Some entry) = found entry
account_or_missing None = missing

abbrev pub account_in : List ℕ → Option (List Passwd) → Account
account_in user (Some entries) = account_or_missing (entry_of user entries)
account_in user None = unreadable
