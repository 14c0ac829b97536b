-- pam_wheel(8): whether the calling process belongs to a user in the group wheel.
--
-- Its steps, from the entry point on:
--   `wheel_act`, `checks_wheel`, `checks_user`: the user is asked for, and looked up
--   `code_by_passwds`, `unless_tested`: who is tested
--   `code_by_groups`, `code_of_caller`, `code_of_entry`: the caller's entry
--   `group_code`: the group
--   `member_code`: whether the caller is in it
use Rattle.std.specs.Prelude.{ℕ, Bool, true, false, ◌==◌, ◌&&◌, not, if◌then◌else◌, List, Option, Some, None, codes}
use Rattle.std.specs.List.{find}
use Rattle.pam_base.specs.declared.code.Code.{Code}
use Rattle.pam_base.specs.declared.code.Code.TheVariants.{Success, ServiceErr, PermDenied, UserUnknown, Ignore}
use Rattle.pam_room.specs.Call.{PlainCall, value_among}
use Rattle.pam_room.specs.Module.{Plays}
use Rattle.account_db.specs.declared.passwd.Passwd.{Passwd}
use Rattle.account_db.specs.declared.group.Group.{Group}
use Rattle.account_db.specs.Members.{group_of, is_member}
use Rattle.account_db.specs.Passwd.{entry_of, entry_of_uid}
use Rattle.module_acts.specs.Act.{Act, answers, asks_user, plays_by, reads_groups, reads_passwds, unless_answered}
use Rattle.module_acts.specs.Steps.{sees_caller}
use Rattle.module_acts.specs.Arguments.{has_argument}
use Rattle.module_acts.specs.Uncheck.{code_unchecked}

-- ---- who is tested

abbrev pub unknown_if_none : Option Passwd → Option Code
unknown_if_none None = Some UserUnknown
unknown_if_none (Some entry) = None

-- with `root_only` IGNORE is returned for a user who isn't root
abbrev pub is_passed_over : List (List ℕ) → Passwd → Bool
is_passed_over args entry = has_argument (codes "root_only") args && not (entry.uid == 0)

abbrev pub unless_tested : List (List ℕ) → ℕ → List Passwd → Option Passwd → Option Code
unless_tested args caller entries None = Some UserUnknown
unless_tested args caller entries (Some entry) = if is_passed_over args entry then Some Ignore
    else unknown_if_none (entry_of_uid caller entries)

-- the code by /etc/passwd, if that decides it
abbrev pub code_by_passwds : List (List ℕ) → ℕ → List ℕ → Option (List Passwd) → Option Code
code_by_passwds args caller user None = Some ServiceErr
code_by_passwds args caller user (Some entries) =
    unless_tested args caller entries (entry_of user entries)

-- ---- the group

abbrev pub group_of_gid : ℕ → List Group → Option Group
group_of_gid gid groups = find (λ (g : Group). g.gid == gid) groups

abbrev pub or_root_group : Option Group → List Group → Option Group
or_root_group (Some group) groups = Some group
or_root_group None groups = group_of_gid 0 groups

-- the group that `group=` names; without that argument wheel, or if there is none the first with group ID 0
abbrev pub wheel_group : Option (List ℕ) → List Group → Option Group
wheel_group (Some name) groups = group_of name groups
wheel_group None groups = or_root_group (group_of (codes "wheel") groups) groups

-- ---- the code

-- for users who aren't refused IGNORE is returned, or SUCCESS with `trust`
abbrev pub trusted : Bool → Code
trusted true = Success
trusted false = Ignore

-- users who aren't in the group are refused; with `deny`, those who are
abbrev pub member_code : Bool → Bool → Bool → Code
member_code deny trust member =
    if deny then (if member then PermDenied else trusted trust)
    else (if member then trusted trust else PermDenied)

-- if there is no such group, nobody is in it, and with `deny` IGNORE is returned for everyone
abbrev pub group_code : Bool → Bool → Passwd → Option Group → Code
group_code deny trust entry None = if deny then Ignore else PermDenied
group_code deny trust entry (Some group) =
    member_code deny trust (is_member entry.name (Some entry) group)

abbrev pub code_of_entry : List (List ℕ) → List Group → Option Passwd → Code
code_of_entry args groups None = UserUnknown
code_of_entry args groups (Some entry) =
    group_code (has_argument (codes "deny") args) (has_argument (codes "trust") args) entry
    (wheel_group (value_among (codes "group=") args) groups)

abbrev pub code_of_caller : List (List ℕ) → ℕ → List Group → Option (List Passwd) → Code
code_of_caller args caller groups None = ServiceErr
code_of_caller args caller groups (Some entries) = code_of_entry args groups (entry_of_uid caller entries)

abbrev pub code_by_groups : List (List ℕ) → ℕ → Option (List Passwd) → Option (List Group) → Code
code_by_groups args caller passwds None = ServiceErr
code_by_groups args caller passwds (Some groups) = code_of_caller args caller groups passwds

-- ---- the module

-- the user is looked up; the group file is read if the caller has an entry
abbrev pub checks_user : List (List ℕ) → ℕ → List ℕ → Act
checks_user args caller user = reads_passwds (λ passwds.
    unless_answered (code_by_passwds args caller user passwds)
    (reads_groups (λ groups. answers (code_by_groups args caller passwds groups))))

-- the user is asked for first
abbrev pub checks_wheel : List (List ℕ) → ℕ → Act
checks_wheel args caller = asks_user (checks_user args caller)

-- setcred returns SUCCESS at once
abbrev pub wheel_act : PlainCall → Act
wheel_act call = unless_answered (code_unchecked call.func Success) (sees_caller (checks_wheel call.args))

abbrev pub wheel_plays : Plays
wheel_plays = plays_by wheel_act
