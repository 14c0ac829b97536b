-- What a process that serves logins is asked for, by its arguments and the text of /proc/self/status
-- (this project's own).
use Rattle.std.specs.Prelude.{ℕ, Bool, true, false, ◌&&◌, if◌then◌else◌, List, [], ◌∷◌, Option, Some, None, String, codes, string_bytes}
use Rattle.std.specs.Str.{bytes_eq}
use Rattle.std.specs.declared.alloc.Global.{Global}
use Rattle.pam_base.specs.Number.{number_of_word}
use Rattle.who_calls.specs.declared.ids.Ids.{Ids}
use Rattle.who_calls.specs.declared.request.Request.{Request}
use Rattle.who_calls.specs.Status.{are_one, are_root, ids_in}

-- a root, and the user ID that calls are made for
pub record ServiceRequest : Type 0 where
  pub root : List ℕ
  pub caller : ℕ

abbrev pub asked : Option Request → Option ServiceRequest
asked None = None
asked (Some r) = Some (record { root = r.root.now; caller = r.caller })

-- the real user, or nobody
abbrev pub real_user : Option Ids → ℕ
real_user None = 65534
real_user (Some ids) = ids.real

abbrev pub has_own_rights : Option Ids → Option Ids → Bool
has_own_rights (Some user) (Some group) = are_one user && are_one group
has_own_rights user group = false

abbrev pub may_be_root : Option Ids → Bool
may_be_root None = true
may_be_root (Some user) = are_root user

abbrev pub named_by : Option ℕ → Option ServiceRequest
named_by None = None
named_by (Some caller) = Some (record { root = codes "/"; caller = caller })

abbrev pub named_caller : List ℕ → Option ServiceRequest
named_caller word = named_by (number_of_word word)

-- by the user's and the group's IDs, as far as the system says them
abbrev pub request_by : Option Ids → Option Ids → List (String Global) → Option ServiceRequest
request_by user group [] = Some (record { root = codes "/"; caller = real_user user })
request_by user group (root ∷ []) = if has_own_rights user group
    then Some (record { root = string_bytes root; caller = real_user user }) else None
request_by user group (option ∷ caller ∷ []) =
    if bytes_eq (string_bytes option) (codes "--caller") && may_be_root user
    then named_caller (string_bytes caller) else None
request_by user group words = None

abbrev pub service_request : List ℕ → List (String Global) → Option ServiceRequest
service_request status words =
    request_by (ids_in status (codes "Uid:")) (ids_in status (codes "Gid:")) words
