-- The modules of mod_lists leave each file as it was.
use Rattle.std.proofs.Common.{ℕ, Bool, true, false, ◌==◌, List, [], ◌∷◌, Option, Some, None, codes}
use Rattle.pam_base.specs.declared.code.Code.{Code}
use Rattle.pam_base.specs.declared.code.Code.TheVariants as returns
use Rattle.pam_base.specs.declared.item.ItemName.TheVariants as names
use Rattle.pam_base.specs.declared.style.Style.TheVariants.{ErrorMsg, TextInfo}
use Rattle.pam_room.specs.Call.{PlainCall, value_among}
use Rattle.pam_room.specs.item_store.specs.Items.{text_of}
use Rattle.std.specs.Str.{bytes_eq}
use Rattle.mod_unix.specs.module_acts.specs.account_db.specs.declared.passwd.Passwd.{Passwd}
use Rattle.mod_unix.specs.module_acts.specs.account_db.specs.Passwd.{entry_of}
use Rattle.mod_unix.specs.module_acts.specs.declared.content.Content.{Content}
use Rattle.mod_unix.specs.module_acts.specs.declared.content.Content.TheVariants.{Absent, Unreadable, Holds}
use Rattle.mod_unix.specs.module_acts.specs.Accounts.{Account, account_limit, found, missing, unreadable}
use Rattle.mod_unix.specs.module_acts.specs.Act.{Act, answers, finds_account}
use Rattle.mod_unix.specs.module_acts.specs.Uncheck.{code_unchecked}
use Rattle.mod_lists.specs.declared.condition.Field.{Field}
use Rattle.mod_lists.specs.declared.condition.Field.TheVariants as fields
use Rattle.mod_lists.specs.declared.list_scope.Applies.{Applies}
use Rattle.mod_lists.specs.declared.list_scope.Applies.TheVariants.{Yes, No, Unknown}
use Rattle.mod_lists.specs.declared.list_settings.ListItem.{ListItem}
use Rattle.mod_lists.specs.declared.list_settings.ListItem.TheVariants.{Tty, User, Rhost, Ruser, Group, Shell}
use Rattle.mod_lists.specs.declared.list_values.Values.{Values}
use Rattle.mod_lists.specs.declared.list_values.Values.TheVariants as values
use Rattle.mod_lists.specs.declared.truth.Truth.{Truth}
use Rattle.mod_lists.specs.declared.truth.Truth.TheVariants as truths
use Rattle.mod_lists.specs.Nologin.{notice_for_account as notice_account, after_notice, admits_root_only, checks_notice, nologin_act}
use Rattle.mod_lists.specs.Nologin.{notice_limit, or_etc, plain_answer, reads_notice}
use Rattle.mod_lists.specs.ListSettings.{PlainApply, PlainSettings, apply_of, everyone, members, one, settings_of}
use Rattle.mod_lists.specs.Listfile.{applies, at_once as listfile_at_once, reads_group_values as values_account, if_applies, file_verdict}
use Rattle.mod_lists.specs.Listfile.{applies_in_groups as applies_groups, applies_after_passwds as applies_passwds, checks_list}
use Rattle.mod_lists.specs.Listfile.{code_for_values, error_answer, group_values, listfile_act, reads_values, shell_values, text_values}
use Rattle.mod_lists.specs.Listfile.{verdict, yes_or_no}
use Rattle.mod_lists.specs.Shells.{checks_login_shell as shell_account, checks_shell, list_code, login_shell, shells_act}
use Rattle.mod_lists.specs.Condition.{PlainCondition, PlainTest, condition_of, grouped, on, on_text}
use Rattle.mod_lists.specs.SucceedIf.{at_once as succeed_at_once, tried_in_groups as groups_truth, tries_after_passwds as truth_passwds}
use Rattle.mod_lists.specs.SucceedIf.{rest_if_holds, unless_use_uid, checks_conditions, conditions_in, item_text, meets_all, on_account}
use Rattle.mod_lists.specs.SucceedIf.{succeed_if_act, tests_field, tries, tries_words, uses_uid}
use Rattle.laws_audit.proofs.Steps.{Leaves, answering, asking, finding, reading, reading_groups, reading_passwds, reading_shells, seeing_items, showing, unless}

module _ (path : List ℕ) where
  abbrev Still : Act → Type 0
  Still act = Leaves path act

  -- ---- pam_nologin

  module _ (plain : Code) where
    notice_by_uid : (root : Bool) (notice : List ℕ) → Still (admits_root_only root plain notice)
    notice_by_uid true notice = showing path TextInfo notice (answers plain) (answering path plain)
    notice_by_uid false notice = showing path ErrorMsg notice (answers returns.AuthErr) (answering path returns.AuthErr)

    notice_by_account : (notice : List ℕ) (a : Account) → Still (notice_account plain notice a)
    notice_by_account notice unreadable = answering path returns.ServiceErr
    notice_by_account notice missing = showing path ErrorMsg notice (answers returns.UserUnknown) (answering path returns.UserUnknown)
    notice_by_account notice (found entry) = notice_by_uid (entry.uid == 0) notice

    notice_by : (user : List ℕ) (c : Content) → Still (after_notice plain user c)
    notice_by user Absent = answering path plain
    notice_by user Unreadable = answering path returns.ServiceErr
    notice_by user (Holds notice) = finding path user (notice_account plain notice) (notice_by_account notice)

  module _ (act : Content → Act) (next : (c : Content) → Still (act c)) where
    etc_notice : (c : Content) → Still (or_etc act c)
    etc_notice Absent = reading path (codes "/etc/nologin") notice_limit act next
    etc_notice Unreadable = next Unreadable
    etc_notice (Holds notice) = next (Holds notice)

    notice_read : (name : Option (List ℕ)) → Still (reads_notice name act)
    notice_read (Some name) = reading path name notice_limit act next
    notice_read None = reading path (codes "/var/run/nologin") notice_limit (or_etc act) etc_notice

  pub nologin_leaves : (call : PlainCall) → Still (nologin_act call)
  nologin_leaves call =
      let plain = plain_answer call.args in
      unless path (code_unchecked call.func plain) (checks_notice call.args)
      (asking path (λ user. reads_notice (value_among (codes "file=") call.args) (after_notice plain user))
      (λ user. notice_read (after_notice plain user) (notice_by plain user) (value_among (codes "file=") call.args)))

  -- ---- pam_listfile

  module _ (error : Code) (s : PlainSettings) where
    values_by : (v : Values) → Still (code_for_values error s v)
    values_by values.Unset = answering path (verdict s.sense false)
    values_by values.Unknown = answering path error
    values_by (values.These wanted) = reading path s.file account_limit (λ content. answers (file_verdict error s.sense wanted content))
        (λ content. answering path (file_verdict error s.sense wanted content))

    module _ (user : List ℕ) where
      values_of_account : (a : Account) → Still (values_account user (code_for_values error s) a)
      values_of_account (found entry) = reading_groups path (λ groups. code_for_values error s (group_values user (found entry) groups))
          (λ groups. values_by (group_values user (found entry) groups))
      values_of_account missing = values_by values.Unknown
      values_of_account unreadable = values_by values.Unknown

      values_read : (item : ListItem) → Still (reads_values item user (code_for_values error s))
      values_read Tty = seeing_items path (λ texts. code_for_values error s (text_values Tty (text_of texts names.Tty)))
          (λ texts. values_by (text_values Tty (text_of texts names.Tty)))
      values_read User = seeing_items path (λ texts. code_for_values error s (text_values User (text_of texts names.User)))
          (λ texts. values_by (text_values User (text_of texts names.User)))
      values_read Rhost = seeing_items path (λ texts. code_for_values error s (text_values Rhost (text_of texts names.Rhost)))
          (λ texts. values_by (text_values Rhost (text_of texts names.Rhost)))
      values_read Ruser = seeing_items path (λ texts. code_for_values error s (text_values Ruser (text_of texts names.Ruser)))
          (λ texts. values_by (text_values Ruser (text_of texts names.Ruser)))
      values_read Shell = finding path user (λ account. code_for_values error s (shell_values account)) (λ account. values_by (shell_values account))
      values_read Group = finding path user (values_account user (code_for_values error s)) values_of_account

      applied : (a : Applies) → Still (if_applies error s user a)
      applied Yes = values_read s.item
      applied No = answering path returns.Ignore
      applied Unknown = answering path error

      members_read : (name : List ℕ) (entries : Option (List Passwd)) → Still (applies_passwds name user (if_applies error s user) entries)
      members_read name None = applied Unknown
      members_read name (Some entries) =
          reading_groups path (λ groups. if_applies error s user (applies_groups name user (entry_of user entries) groups))
          (λ groups. applied (applies_groups name user (entry_of user entries) groups))

      list_applies : (a : PlainApply) → Still (applies a user (if_applies error s user))
      list_applies everyone = applied Yes
      list_applies (one name) = applied (yes_or_no (bytes_eq name user))
      list_applies (members name) = reading_passwds path (applies_passwds name user (if_applies error s user)) (members_read name)

  list_by_settings : (error : Code) (args : List (List ℕ)) (s : Option PlainSettings) → Still (checks_list error args s)
  list_by_settings error args None = answering path error
  list_by_settings error args (Some s) = asking path (λ user. applies (apply_of s.item args) user (if_applies error s user))
      (λ user. list_applies error s user (apply_of s.item args))

  pub listfile_leaves : (call : PlainCall) → Still (listfile_act call)
  listfile_leaves call = unless path (listfile_at_once call.func) (checks_list (error_answer call.args) call.args (settings_of call.args))
      (list_by_settings (error_answer call.args) call.args (settings_of call.args))

  -- ---- pam_shells

  shell_by_account : (a : Account) → Still (shell_account a)
  shell_by_account unreadable = answering path returns.AuthErr
  shell_by_account missing = answering path returns.AuthErr
  shell_by_account (found entry) = reading_shells path (λ shells. answers (list_code (login_shell entry.shell) shells))
      (λ shells. answering path (list_code (login_shell entry.shell) shells))

  pub shells_leaves : (call : PlainCall) → Still (shells_act call)
  shells_leaves call = unless path (code_unchecked call.func returns.Success) checks_shell
      (asking path (λ user. finds_account user shell_account) (λ user. finding path user shell_account shell_by_account))

  -- ---- pam_succeed_if

  module _ (user : List ℕ) (act : Truth → Act) (next : (t : Truth) → Still (act t)) where
    field_tested : (field : Field) (test : PlainTest) → Still (tests_field field test user act)
    field_tested (fields.Item item) test = seeing_items path (λ items. act (on_text test (item_text item items)))
        (λ items. next (on_text test (item_text item items)))
    field_tested (fields.Account field) test = finding path user (λ account. act (on_account test field account))
        (λ account. next (on_account test field account))

    groups_tested : (sense : Bool) (names : List (List ℕ)) (entries : Option (List Passwd)) → Still (truth_passwds sense names user act entries)
    groups_tested sense names None = next truths.Faulty
    groups_tested sense names (Some entries) = reading_groups path (λ groups. act (groups_truth sense names user (entry_of user entries) groups))
        (λ groups. next (groups_truth sense names user (entry_of user entries) groups))

    tried : (condition : PlainCondition) → Still (tries condition user act)
    tried (on field test) = field_tested field test
    tried (grouped sense names) = reading_passwds path (truth_passwds sense names user act) (groups_tested sense names)

    tried_words : (condition : Option PlainCondition) → Still (tries_words condition user act)
    tried_words (Some condition) = tried condition
    tried_words None = next truths.Faulty

  truth_leads : (rest : Act) → Still rest → (t : Truth) → Still (rest_if_holds rest t)
  truth_leads rest leaves truths.Holds = leaves
  truth_leads rest leaves truths.Fails = answering path returns.AuthErr
  truth_leads rest leaves truths.NoUser = answering path returns.UserUnknown
  truth_leads rest leaves truths.Faulty = answering path returns.ServiceErr

  met : (words : List (List ℕ)) (user : List ℕ) → Still (meets_all words user)
  met [] user = answering path returns.Success
  met (field ∷ []) user = answering path returns.ServiceErr
  met (field ∷ word ∷ []) user = answering path returns.ServiceErr
  met (field ∷ word ∷ value ∷ rest) user =
      tried_words user (rest_if_holds (meets_all rest user)) (truth_leads (meets_all rest user) (met rest user)) (condition_of field word value)

  used : (given : Bool) (args : List (List ℕ)) → Still (unless_use_uid given args)
  used true args = answering path returns.ServiceErr
  used false args = asking path (meets_all (conditions_in args)) (met (conditions_in args))

  pub succeed_if_leaves : (call : PlainCall) → Still (succeed_if_act call)
  succeed_if_leaves call = unless path (succeed_at_once call.func) (checks_conditions call.args) (used (uses_uid call.args) call.args)
