-- The members of a group (group(5), getgrnam(3)).
use Rattle.std.specs.Prelude.{ℕ, Bool, false, ◌==◌, ◌||◌, if◌then◌else◌, List, Option, Some, None}
use Rattle.std.specs.List.{filter_map, find, list_any}
use Rattle.std.specs.Str.{bytes_eq}
use Rattle.account_db.specs.declared.group.Group.{Group}
use Rattle.account_db.specs.declared.passwd.Passwd.{Passwd}

-- the group of a name: the first entry with that name
abbrev pub group_of : List ℕ → List Group → Option Group
group_of name groups = find (λ (g : Group). bytes_eq g.name name) groups

-- a user is in a group if the user's own entry has its id, or if the group lists the user
abbrev pub has_gid : Option Passwd → ℕ → Bool
has_gid (Some entry) gid = entry.gid == gid
has_gid None gid = false

abbrev pub is_member : List ℕ → Option Passwd → Group → Bool
is_member user entry group =
    has_gid entry group.gid || list_any (λ m. bytes_eq m user) group.members

abbrev pub is_member_of : List ℕ → Option Passwd → Option Group → Bool
is_member_of user entry (Some group) = is_member user entry group
is_member_of user entry None = false

-- whether a user is in the group of a name; a group that doesn't exist has no members
abbrev pub is_in_group : List ℕ → List ℕ → Option Passwd → List Group → Bool
is_in_group name user entry groups = is_member_of user entry (group_of name groups)

abbrev pub name_if_member : List ℕ → Option Passwd → Group → Option (List ℕ)
name_if_member user entry group = if is_member user entry group then Some group.name else None

-- the names of a user's groups: those of all entries that the user is in
abbrev pub group_names : List ℕ → Option Passwd → List Group → List (List ℕ)
group_names user entry groups = filter_map (name_if_member user entry) groups
