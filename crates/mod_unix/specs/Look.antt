-- What is known of a user's password (passwd(5), shadow(5)).
--
-- Its steps:
--   `looks`: passwd is read
--   `after_passwd`: whether the user has an entry there
--   `shadow_if_x`: an entry with `x` means that the hash is in shadow
use Rattle.std.specs.Prelude.{ℕ, Bool, true, false, List, Option, Some, None, Result, Ok, Err, codes}
use Rattle.std.specs.Str.{bytes_eq}
use Rattle.account_db.specs.declared.fault.DbFault.{DbFault}
use Rattle.account_db.specs.declared.passwd.Passwd.{Passwd}
use Rattle.account_db.specs.declared.shadow.Shadow.{Shadow}
use Rattle.account_db.specs.Passwd.{entry_of, passwds_of}
use Rattle.account_db.specs.Shadow.{shadow_of, shadows_of}
use Rattle.module_acts.specs.declared.content.Content.{Content}
use Rattle.module_acts.specs.declared.content.Content.TheVariants as content
use Rattle.module_acts.specs.Accounts.{account_limit}
use Rattle.module_acts.specs.Act.{Act, reads_file}
use Rattle.mod_unix.specs.declared.look.Field.{Field}
use Rattle.mod_unix.specs.declared.look.Field.TheVariants as field
use Rattle.mod_unix.specs.declared.look.KnownPassword.{KnownPassword}
use Rattle.mod_unix.specs.declared.look.KnownPassword.TheVariants.{Unknown, Unavailable, Plain, Shadowed}

-- the password field of the user's entry in passwd
abbrev pub field_or_missing : Option Passwd → Field
field_or_missing (Some entry) = field.Holds entry.password
field_or_missing None = field.Missing

abbrev pub field_among : List ℕ → Result (List Passwd) DbFault → Field
field_among user (Ok entries) = field_or_missing (entry_of user entries)
field_among user (Err fault) = field.Unreadable

abbrev pub field_in : List ℕ → Content → Field
field_in user (content.Holds text) = field_among user (passwds_of text)
field_in user content.Absent = field.Unreadable
field_in user content.Unreadable = field.Unreadable

-- the user's entry in shadow
abbrev pub shadowed : Option Shadow → KnownPassword
shadowed (Some entry) = Shadowed entry
shadowed None = Unavailable

abbrev pub shadow_among : List ℕ → Result (List Shadow) DbFault → KnownPassword
shadow_among user (Ok entries) = shadowed (shadow_of user entries)
shadow_among user (Err fault) = Unavailable

abbrev pub shadow_in : List ℕ → Content → KnownPassword
shadow_in user (content.Holds text) = shadow_among user (shadows_of text)
shadow_in user content.Absent = Unavailable
shadow_in user content.Unreadable = Unavailable

-- a password field `x` means that the hash is in shadow; any other is the hash
abbrev pub shadow_if_x : Bool → List ℕ → List ℕ → (KnownPassword → Act) → Act
shadow_if_x true user hash act =
    reads_file (codes "/etc/shadow") account_limit (λ c. act (shadow_in user c))
shadow_if_x false user hash act = act (Plain hash)

abbrev pub is_x : List ℕ → Bool
is_x hash = bytes_eq hash (codes "x")

abbrev pub after_passwd : List ℕ → Field → (KnownPassword → Act) → Act
after_passwd user field.Unreadable act = act Unavailable
after_passwd user field.Missing act = act Unknown
after_passwd user (field.Holds hash) act = shadow_if_x (is_x hash) user hash act

-- what is known of a user's password is looked up
unfoldable pub looks : List ℕ → (KnownPassword → Act) → Act
looks user act =
    reads_file (codes "/etc/passwd") account_limit (λ c. after_passwd user (field_in user c) act)
