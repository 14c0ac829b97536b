-- Whom pam_wheel lets in.
use Rattle.std.proofs.Common.{◌≡◌, ◌≢◌, inl, inr, ℕ, Bool, true, false, true≢false, not, ◌&&◌, ◌==◌, if◌then◌else◌, List, Option, Some}
use Rattle.std.proofs.Common.{None, Result, Ok, Err, codes, refl, ap}
use Rattle.std.specs.Result.{result_ok}
use Rattle.pam_base.specs.declared.call.Func.{Func}
use Rattle.pam_base.specs.declared.call.Func.TheVariants.{Authenticate, SetCred, AcctMgmt, OpenSession, CloseSession, ChAuthTok}
use Rattle.pam_base.specs.declared.code.Code.{Code}
use Rattle.pam_base.specs.declared.code.Code.TheVariants as returns
use Rattle.pam_outside.specs.Files.{file_at}
use Rattle.pam_outside.specs.Paths.{path_of}
use Rattle.pam_room.specs.Call.{value_among}
use Rattle.pam_room.specs.Module.{NamedData, SeenRoom, Sight}
use Rattle.pam_room.specs.Say.{user_asked}
use Rattle.account_db.specs.declared.fault.DbFault.{DbFault}
use Rattle.account_db.specs.declared.passwd.Passwd.{Passwd}
use Rattle.account_db.specs.declared.group.Group.{Group}
use Rattle.account_db.specs.Group.{groups_of}
use Rattle.account_db.specs.Members.{is_member}
use Rattle.account_db.specs.Passwd.{entry_of, entry_of_uid, passwds_of}
use Rattle.module_acts.specs.declared.content.Content.{Content}
use Rattle.module_acts.specs.declared.content.Content.TheVariants as content
use Rattle.module_acts.specs.Accounts.{account_limit, groups_in, nothing_known, passwds_in}
use Rattle.module_acts.specs.Act.{Act, Stage, answers, content_seen, later, reads_groups, reads_passwds, unless_answered}
use Rattle.module_acts.specs.Arguments.{has_argument}
use Rattle.module_acts.specs.Steps.{sees_caller}
use Rattle.module_acts.specs.Uncheck.{code_unchecked}
use Rattle.mod_history.specs.Wheel.{code_of_entry, group_code, member_code, unless_tested, checks_user, checks_wheel, code_by_groups}
use Rattle.mod_history.specs.Wheel.{code_by_passwds, is_passed_over, unknown_if_none, wheel_group}
use Rattle.laws_check.specs.Wheel.{InWheel, OnlyMembersGoOn}
use Rattle.laws_check.proofs.UserLookupFacts.{holds, user_given}

-- a code that lets the login go on is none of these
record GoesOn (code : Code) : Type 0 where
  not_service : returns.ServiceErr ≡ code → ⊥
  not_perm : returns.PermDenied ≡ code → ⊥
  not_unknown : returns.UserUnknown ≡ code → ⊥
  not_conv : returns.ConvErr ≡ code → ⊥
  not_module : returns.ModuleUnknown ≡ code → ⊥

service_success : returns.ServiceErr ≡ returns.Success → ⊥
service_success e = absurd cc

perm_success : returns.PermDenied ≡ returns.Success → ⊥
perm_success e = absurd cc

unknown_success : returns.UserUnknown ≡ returns.Success → ⊥
unknown_success e = absurd cc

conv_success : returns.ConvErr ≡ returns.Success → ⊥
conv_success e = absurd cc

module_success : returns.ModuleUnknown ≡ returns.Success → ⊥
module_success e = absurd cc

service_ignore : returns.ServiceErr ≡ returns.Ignore → ⊥
service_ignore e = absurd cc

perm_ignore : returns.PermDenied ≡ returns.Ignore → ⊥
perm_ignore e = absurd cc

unknown_ignore : returns.UserUnknown ≡ returns.Ignore → ⊥
unknown_ignore e = absurd cc

conv_ignore : returns.ConvErr ≡ returns.Ignore → ⊥
conv_ignore e = absurd cc

module_ignore : returns.ModuleUnknown ≡ returns.Ignore → ⊥
module_ignore e = absurd cc

success_goes_on : GoesOn returns.Success
success_goes_on = record {
  not_service = service_success;
  not_perm = perm_success;
  not_unknown = unknown_success;
  not_conv = conv_success;
  not_module = module_success;
}

ignore_goes_on : GoesOn returns.Ignore
ignore_goes_on = record {
  not_service = service_ignore;
  not_perm = perm_ignore;
  not_unknown = unknown_ignore;
  not_conv = conv_ignore;
  not_module = module_ignore;
}

-- the entry is a member of this group
record MemberOf (entry : Passwd) (chosen : Option Group) : Type 0 where
  group : Group
  group_is : chosen ≡ Some group
  member : is_member entry.name (Some entry) group ≡ true

module _ (code : Code) (goes : GoesOn code) where
  member_by : (deny trust m : Bool) → deny ≡ false → member_code deny trust m ≡ code → m ≡ true
  member_by true trust m d e = absurd (true≢false d)
  member_by false trust true d e = refl
  member_by false trust false d e = absurd (goes.not_perm e)

  group_by : (deny trust : Bool) (entry : Passwd) (chosen : Option Group) → deny ≡ false → group_code deny trust entry chosen ≡ code → MemberOf entry chosen
  group_by true trust entry None d e = absurd (true≢false d)
  group_by false trust entry None d e = absurd (goes.not_perm e)
  group_by deny trust entry (Some group) d e = record {
    group = group;
    group_is = refl;
    member = member_by deny trust (is_member entry.name (Some entry) group) d e;
  }

  answered_later : (o : Option Code) (act : Act) (stage : Stage) → ((k : Code) → o ≡ Some k → k ≡ code → ⊥) → (unless_answered o act stage).code ≡ code
      → (act stage).code ≡ code
  unfolding answers
  answered_later (Some k) act stage not e = absurd (not k refl e)
  answered_later None act stage not e = e

  not_passed : (b : Bool) (o : Option Passwd) (k : Code) → b ≡ false → (if b then Some returns.Ignore else unknown_if_none o) ≡ Some k → k ≡ code → ⊥
  not_passed true o k b is e = absurd (true≢false b)
  not_passed false None k b is e = goes.not_unknown cc
  not_passed false (Some entry) k b is e = absurd cc

  module _ (args : List (List ℕ)) (denies : has_argument (codes "deny") args ≡ false) (all : has_argument (codes "root_only") args ≡ false)
      (held : List NamedData) (sight : Sight) where
    abbrev Done : Type 0
    Done = InWheel sight.root sight.files sight.caller args

    not_user : (o : Option Passwd) (es : List Passwd) (k : Code) → unless_tested args sight.caller es o ≡ Some k → k ≡ code → ⊥
    not_user None es k is e = goes.not_unknown cc
    not_user (Some entry) es k is e =
        let b : is_passed_over args entry ≡ false = ap (λ (r : Bool). r && not (entry.uid == 0)) all in
        not_passed (is_passed_over args entry) (entry_of_uid sight.caller es) k b is e

    module _ (room : SeenRoom) (user : List ℕ) where
      module _ (text : List ℕ) (is : file_at (path_of sight.root (codes "/etc/passwd")) sight.files ≡ Some text) (es : List Passwd)
          (are : passwds_of text ≡ Ok es) where
        by_caller : (o : Option Passwd) (g : List ℕ) (gs : List Group) → file_at (path_of sight.root (codes "/etc/group")) sight.files ≡ Some g
            → groups_of g ≡ Ok gs → entry_of_uid sight.caller es ≡ o
            → code_of_entry args gs o ≡ code → Done
        by_caller None g gs there gare caller e = absurd (goes.not_unknown e)
        by_caller (Some entry) g gs there gare caller e =
            let m = group_by (has_argument (codes "deny") args) (has_argument (codes "trust") args) entry
            (wheel_group (value_among (codes "group=") args) gs) denies e in
            record {
              passwd = text;
              passwd_is = is;
              accounts = es;
              accounts_are = are;
              account = entry;
              account_is = caller;
              group_file = g;
              group_file_is = there;
              groups = gs;
              groups_are = gare;
              group = m.group;
              group_is = m.group_is;
              member = m.member;
            }

        by_groups : (r : Result (List Group) DbFault) (g : List ℕ) → file_at (path_of sight.root (codes "/etc/group")) sight.files ≡ Some g → groups_of g ≡ r
            → code_by_groups args sight.caller (Some es) (result_ok r) ≡ code → Done
        by_groups (Err fault) g there gare e = absurd (goes.not_service e)
        by_groups (Ok gs) g there gare e = by_caller (entry_of_uid sight.caller es) g gs there gare refl e

        by_group_file : (c : Content) → ((g : List ℕ) → c ≡ content.Holds g → file_at (path_of sight.root (codes "/etc/group")) sight.files ≡ Some g)
            → code_by_groups args sight.caller (Some es) (groups_in c) ≡ code → Done
        by_group_file content.Absent there e = absurd (goes.not_service e)
        by_group_file content.Unreadable there e = absurd (goes.not_service e)
        by_group_file (content.Holds g) there e = by_groups (groups_of g) g (there g refl) refl e

      abbrev at : Option (List Passwd) → Stage
      at known = record { room = room; held = held; known = record { passwds = Some known; groups = None }; sight = later sight }

      abbrev reads : Option (List Passwd) → Act
      reads passwds = reads_groups (λ groups. answers (code_by_groups args sight.caller passwds groups))

      group_read : (text : List ℕ) (es : List Passwd) (known : Option (List Passwd))
          → file_at (path_of sight.root (codes "/etc/passwd")) sight.files ≡ Some text → passwds_of text ≡ Ok es
          → (reads (Some es) (at known)).code ≡ code → Done
      unfolding reads_groups answers
      group_read text es known is are e =
          by_group_file text is es are (content_seen (codes "/etc/group") account_limit (later sight))
          (λ g k. holds (sight.failing 1) account_limit (file_at (path_of sight.root (codes "/etc/group")) sight.files) g k) e

      service : (passwds : Option (List Passwd)) (stage : Stage) → passwds ≡ None
          → (unless_answered (code_by_passwds args sight.caller user passwds) (reads passwds) stage).code ≡ code → ⊥
      unfolding answers
      service None stage is e = goes.not_service e
      service (Some es) stage is e = absurd cc

      by_passwds : (r : Result (List Passwd) DbFault) (text : List ℕ) (known : Option (List Passwd))
          → file_at (path_of sight.root (codes "/etc/passwd")) sight.files ≡ Some text → passwds_of text ≡ r
          → (unless_answered (code_by_passwds args sight.caller user (result_ok r)) (reads (result_ok r)) (at known)).code ≡ code → Done
      by_passwds (Err fault) text known is are e = absurd (service None (at known) refl e)
      by_passwds (Ok es) text known is are e =
          group_read text es known is are
          (answered_later (code_by_passwds args sight.caller user (Some es)) (reads (Some es)) (at known) (λ k d s. not_user (entry_of user es) es k d s) e)

      by_file : (c : Content) (known : Option (List Passwd)) → ((text : List ℕ) → c ≡ content.Holds text
          → file_at (path_of sight.root (codes "/etc/passwd")) sight.files ≡ Some text)
          → (unless_answered (code_by_passwds args sight.caller user (passwds_in c)) (reads (passwds_in c)) (at known)).code ≡ code → Done
      by_file content.Absent known is e = absurd (service None (at known) refl e)
      by_file content.Unreadable known is e = absurd (service None (at known) refl e)
      by_file (content.Holds text) known is e = by_passwds (passwds_of text) text known (is text refl) refl e

      looked : (checks_user args sight.caller user (record { room = room; held = held; known = nothing_known; sight = sight })).code ≡ code → Done
      unfolding reads_passwds
      looked e =
          let c = content_seen (codes "/etc/passwd") account_limit sight in
          by_file c (passwds_in c) (λ text k. holds (sight.failing 0) account_limit (file_at (path_of sight.root (codes "/etc/passwd")) sight.files) text k) e

    module _ (room : SeenRoom) where
      abbrev start : Stage
      start = record { room = room; held = held; known = nothing_known; sight = sight }

      checked : (sees_caller (checks_wheel args) start).code ≡ code → Done
      unfolding sees_caller
      checked e = user_given code Done (checks_user args sight.caller) start goes.not_conv e (λ user is k. looked (user_asked room).room user k)

      by_func : (f : Func) → f ≢ SetCred → (unless_answered (code_unchecked f returns.Success) (sees_caller (checks_wheel args)) start).code ≡ code → Done
      unfolding answers
      by_func Authenticate n e = checked e
      by_func AcctMgmt n e = checked e
      by_func SetCred n e = absurd (n refl)
      by_func OpenSession n e = absurd (goes.not_module e)
      by_func CloseSession n e = absurd (goes.not_module e)
      by_func ChAuthTok n e = absurd (goes.not_module e)

pub only_members_go_on : OnlyMembersGoOn
only_members_go_on call room held sight n denies all (inl e) = by_func returns.Success success_goes_on call.args denies all held sight room call.func n e
only_members_go_on call room held sight n denies all (inr e) = by_func returns.Ignore ignore_goes_on call.args denies all held sight room call.func n e
