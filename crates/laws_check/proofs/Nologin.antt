-- Whom pam_nologin lets in.
use Rattle.std.proofs.Common.{◌≡◌, ◌≢◌, ◌⊎◌, inl, inr, ℕ, Bool, true, false, ◌==◌, List, Option, Some, None, codes, refl}
use Rattle.std.proofs.lemmas.Bool.{eqb-true}
use Rattle.pam_base.specs.declared.call.Func.{Func}
use Rattle.pam_base.specs.declared.call.Func.TheVariants.{Authenticate, SetCred, AcctMgmt, OpenSession, CloseSession, ChAuthTok}
use Rattle.pam_base.specs.declared.code.Code.{Code}
use Rattle.pam_base.specs.declared.code.Code.TheVariants as returns
use Rattle.pam_outside.specs.Files.{file_at}
use Rattle.pam_outside.specs.Paths.{path_of}
use Rattle.pam_room.specs.Call.{value_among}
use Rattle.pam_room.specs.Module.{NamedData, SeenRoom, Sight}
use Rattle.pam_room.specs.Say.{user_asked}
use Rattle.account_db.specs.declared.passwd.Passwd.{Passwd}
use Rattle.module_acts.specs.declared.content.Content.{Content}
use Rattle.module_acts.specs.declared.content.Content.TheVariants as content
use Rattle.module_acts.specs.Accounts.{Known, found, missing, nothing_known, unreadable}
use Rattle.module_acts.specs.Act.{Stage, answers, content_seen, finds_account, later, reads_file, shows, unless_answered}
use Rattle.module_acts.specs.Uncheck.{code_unchecked}
use Rattle.mod_lists.specs.Nologin.{after_notice, notice_for_account, admits_root_only, checks_notice, notice_limit, or_etc, plain_answer, reads_notice}
use Rattle.laws_check.specs.Account.{HasAccount}
use Rattle.laws_check.specs.Nologin.{IsRoot, NoNotice, OnlyRootGoesOn}
use Rattle.laws_check.proofs.UserLookupFacts.{absent, account_found, user_given}

-- a code that lets the login go on is none of these
record GoesOn (code : Code) : Type 0 where
  not_service : returns.ServiceErr ≡ code → ⊥
  not_auth : returns.AuthErr ≡ code → ⊥
  not_unknown : returns.UserUnknown ≡ code → ⊥
  not_conv : returns.ConvErr ≡ code → ⊥
  not_module : returns.ModuleUnknown ≡ code → ⊥

service_success : returns.ServiceErr ≡ returns.Success → ⊥
service_success e = absurd cc

auth_success : returns.AuthErr ≡ returns.Success → ⊥
auth_success e = absurd cc

unknown_success : returns.UserUnknown ≡ returns.Success → ⊥
unknown_success e = absurd cc

conv_success : returns.ConvErr ≡ returns.Success → ⊥
conv_success e = absurd cc

module_success : returns.ModuleUnknown ≡ returns.Success → ⊥
module_success e = absurd cc

service_ignore : returns.ServiceErr ≡ returns.Ignore → ⊥
service_ignore e = absurd cc

auth_ignore : returns.AuthErr ≡ returns.Ignore → ⊥
auth_ignore e = absurd cc

unknown_ignore : returns.UserUnknown ≡ returns.Ignore → ⊥
unknown_ignore e = absurd cc

conv_ignore : returns.ConvErr ≡ returns.Ignore → ⊥
conv_ignore e = absurd cc

module_ignore : returns.ModuleUnknown ≡ returns.Ignore → ⊥
module_ignore e = absurd cc

success_goes_on : GoesOn returns.Success
success_goes_on = record {
  not_service = service_success;
  not_auth = auth_success;
  not_unknown = unknown_success;
  not_conv = conv_success;
  not_module = module_success;
}

ignore_goes_on : GoesOn returns.Ignore
ignore_goes_on = record {
  not_service = service_ignore;
  not_auth = auth_ignore;
  not_unknown = unknown_ignore;
  not_conv = conv_ignore;
  not_module = module_ignore;
}

module _ (code plain : Code) (goes : GoesOn code) (room : SeenRoom) (held : List NamedData) where
  module _ (user : List ℕ) (user_is : (user_asked room).room.items.user ≡ Some user) where
    -- while there is a notice
    module _ (notice : List ℕ) (sight : Sight) where
      abbrev at : Known → Stage
      at known = record { room = (user_asked room).room; held = held; known = known; sight = later sight }

      by_id : (b : Bool) (account : Passwd) (known : Known) → (account.uid == 0) ≡ b → HasAccount sight.root sight.files user account
          → (admits_root_only b plain notice (at known)).code ≡ code → IsRoot sight.root sight.files room
      unfolding shows answers
      by_id true account known is h e = record { user = user; user_is = user_is; account = account; has_account = h; is_root = eqb-true account.uid 0 is }
      by_id false account known is h e = absurd (goes.not_auth e)

      is_found : (account : Passwd) (known : Known) → HasAccount sight.root sight.files user account
          → (notice_for_account plain notice (found account) (at known)).code ≡ code → IsRoot sight.root sight.files room
      is_found account known h e = by_id (account.uid == 0) account known refl h e

      not_missing : (known : Known) → (notice_for_account plain notice missing (at known)).code ≡ code → ⊥
      unfolding shows answers
      not_missing known e = goes.not_unknown e

      not_unreadable : (known : Known) → (notice_for_account plain notice unreadable (at known)).code ≡ code → ⊥
      unfolding answers
      not_unreadable known e = goes.not_service e

      is_root : (finds_account user (notice_for_account plain notice) (record {
        room = (user_asked room).room;
        held = held;
        known = nothing_known;
        sight = sight;
      })).code ≡ code → IsRoot sight.root sight.files room
      is_root e = account_found code (IsRoot sight.root sight.files room) user (notice_for_account plain notice) (user_asked room).room held sight is_found
          not_missing not_unreadable e

    module _ (sight : Sight) where
      abbrev Ends : Type 0
      Ends = NoNotice sight.root sight.files ⊎ IsRoot sight.root sight.files room

      abbrev stage_at : Sight → Stage
      stage_at now = record { room = (user_asked room).room; held = held; known = nothing_known; sight = now }

      abbrev IsAbsent : List ℕ → Type 0
      IsAbsent name = file_at (path_of sight.root name) sight.files ≡ None

      in_etc : (c : Content) → IsAbsent (codes "/var/run/nologin") → (c ≡ content.Absent → IsAbsent (codes "/etc/nologin"))
          → (after_notice plain user c (stage_at (later (later sight)))).code ≡ code → Ends
      unfolding answers
      in_etc content.Absent run etc e = inl (record { not_in_run = run; not_in_etc = etc refl })
      in_etc content.Unreadable run etc e = absurd (goes.not_service e)
      in_etc (content.Holds notice) run etc e = inr (is_root notice (later (later sight)) e)

      in_run : (c : Content) → (c ≡ content.Absent → IsAbsent (codes "/var/run/nologin"))
          → (or_etc (after_notice plain user) c (stage_at (later sight))).code ≡ code → Ends
      unfolding reads_file answers
      in_run content.Absent run e =
          in_etc (content_seen (codes "/etc/nologin") notice_limit (later sight)) (run refl)
          (λ is. absent (sight.failing 1) notice_limit (file_at (path_of sight.root (codes "/etc/nologin")) sight.files) is) e
      in_run content.Unreadable run e = absurd (goes.not_service e)
      in_run (content.Holds notice) run e = inr (is_root notice (later sight) e)

      by_notice : (name : Option (List ℕ)) → name ≡ None → (reads_notice name (after_notice plain user) (stage_at sight)).code ≡ code → Ends
      unfolding reads_file
      by_notice (Some name) is e = absurd cc
      by_notice None is e =
          in_run (content_seen (codes "/var/run/nologin") notice_limit sight)
          (λ k. absent (sight.failing 0) notice_limit (file_at (path_of sight.root (codes "/var/run/nologin")) sight.files) k) e

module _ (code : Code) (goes : GoesOn code) (args : List (List ℕ)) (none : value_among (codes "file=") args ≡ None) (room : SeenRoom) (held : List NamedData)
    (sight : Sight) where
  abbrev start : Stage
  start = record { room = room; held = held; known = nothing_known; sight = sight }

  abbrev Done : Type 0
  Done = NoNotice sight.root sight.files ⊎ IsRoot sight.root sight.files room

  checked : (checks_notice args start).code ≡ code → Done
  checked e =
      user_given code Done (λ user. reads_notice (value_among (codes "file=") args) (after_notice (plain_answer args) user)) start goes.not_conv e
      (λ user is k. by_notice code (plain_answer args) goes room held user is sight (value_among (codes "file=") args) none k)

  by_func : (f : Func) → f ≢ SetCred → (unless_answered (code_unchecked f (plain_answer args)) (checks_notice args) start).code ≡ code → Done
  unfolding answers
  by_func Authenticate n e = checked e
  by_func AcctMgmt n e = checked e
  by_func SetCred n e = absurd (n refl)
  by_func OpenSession n e = absurd (goes.not_module e)
  by_func CloseSession n e = absurd (goes.not_module e)
  by_func ChAuthTok n e = absurd (goes.not_module e)

pub only_root_goes_on : OnlyRootGoesOn
only_root_goes_on call room held sight n none (inl e) = by_func returns.Success success_goes_on call.args none room held sight call.func n e
only_root_goes_on call room held sight n none (inr e) = by_func returns.Ignore ignore_goes_on call.args none room held sight call.func n e
