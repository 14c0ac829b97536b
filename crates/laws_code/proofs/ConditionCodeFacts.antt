-- The codes of pam_listfile and pam_succeed_if.
use Rattle.std.proofs.Common.{inl, inr, ℕ, Bool, true, false, List, [], ◌∷◌, Option, Some, None, codes, refl}
use Rattle.std.specs.Str.{bytes_eq}
use Rattle.pam_base.specs.declared.code.Code.{Code}
use Rattle.pam_base.specs.declared.code.Code.TheVariants as returns
use Rattle.pam_base.specs.declared.call.Func.{Func}
use Rattle.pam_base.specs.declared.call.Func.TheVariants.{Authenticate, SetCred, AcctMgmt, OpenSession, CloseSession, ChAuthTok}
use Rattle.pam_base.specs.declared.item.ItemName.TheVariants as items
use Rattle.pam_room.specs.item_store.specs.Items.{text_of}
use Rattle.pam_room.specs.Call.{value_among}
use Rattle.account_db.specs.declared.passwd.Passwd.{Passwd}
use Rattle.account_db.specs.Passwd.{entry_of}
use Rattle.module_acts.specs.declared.content.Content.{Content}
use Rattle.module_acts.specs.declared.content.Content.TheVariants as content
use Rattle.module_acts.specs.Accounts.{Account, found, missing, unreadable}
use Rattle.module_acts.specs.Act.{Act, unless_answered}
use Rattle.mod_lists.specs.declared.list_scope.Applies.{Applies}
use Rattle.mod_lists.specs.declared.list_scope.Applies.TheVariants.{Yes, No, Unknown}
use Rattle.mod_lists.specs.declared.list_values.Values.{Values}
use Rattle.mod_lists.specs.declared.list_values.Values.TheVariants as values
use Rattle.mod_lists.specs.declared.list_settings.ListItem.{ListItem}
use Rattle.mod_lists.specs.declared.list_settings.ListItem.TheVariants as kinds
use Rattle.mod_lists.specs.declared.list_settings.Sense.{Sense}
use Rattle.mod_lists.specs.declared.list_settings.Sense.TheVariants.{Allow, Deny}
use Rattle.mod_lists.specs.ListSettings.{PlainApply, everyone, one, members, PlainSettings, apply_of, settings_of}
use Rattle.mod_lists.specs.declared.condition.Field.{Field}
use Rattle.mod_lists.specs.declared.condition.Field.TheVariants as fields
use Rattle.mod_lists.specs.declared.truth.Truth.{Truth}
use Rattle.mod_lists.specs.declared.truth.Truth.TheVariants as truth
use Rattle.mod_lists.specs.Condition.{PlainCondition, on, grouped, PlainTest, condition_of, on_text}
use Rattle.mod_lists.specs.Listfile as listfile
use Rattle.mod_lists.specs.SucceedIf as succeed
use Rattle.laws_code.specs.Codes.{listfile_codes, listfile_rest, succeed_if_codes, succeed_if_rest}
use Rattle.laws_code.specs.Returns.{IsOneOf, ReturnsOf}
use Rattle.laws_code.proofs.ModuleCodeFacts.{Gives, answering, asking, either, finding, reading, reading_groups, reading_passwds, seeing_items}

-- ---- pam_listfile

module _ (P : Code → Type 0) (error : Code) (failed : P error) (ends : P returns.Success) (passed : P returns.Ignore) (denied : P returns.AuthErr) where
  decided : (s : Sense) (listed : Bool) → P (listfile.verdict s listed)
  decided Allow listed = either P listed _ _ ends denied
  decided Deny listed = either P listed _ _ denied ends

  in_file : (s : Sense) (wanted : List (List ℕ)) (c : Content) → P (listfile.file_verdict error s wanted c)
  in_file s wanted content.Absent = failed
  in_file s wanted content.Unreadable = failed
  in_file s wanted (content.Holds text) = decided s (listfile.is_listed wanted text)

  looked_for : (s : PlainSettings) (v : Values) → Gives P (listfile.code_for_values error s v)
  looked_for s values.Unset = answering P _ (decided s.sense false)
  looked_for s values.Unknown = answering P error failed
  looked_for s (values.These wanted) = reading P s.file _ _ (λ c. answering P _ (in_file s.sense wanted c))

  module _ (user : List ℕ) (act : Values → Act) (rest : (v : Values) → Gives P (act v)) where
    from_account : (a : Account) → Gives P (listfile.reads_group_values user act a)
    from_account (found entry) = reading_groups P _ (λ gs. rest (listfile.group_values user (found entry) gs))
    from_account missing = rest values.Unknown
    from_account unreadable = rest values.Unknown

    valued : (item : ListItem) → Gives P (listfile.reads_values item user act)
    valued kinds.Tty = seeing_items P _ (λ texts. rest (listfile.text_values kinds.Tty (text_of texts items.Tty)))
    valued kinds.User = seeing_items P _ (λ texts. rest (listfile.text_values kinds.User (text_of texts items.User)))
    valued kinds.Rhost = seeing_items P _ (λ texts. rest (listfile.text_values kinds.Rhost (text_of texts items.Rhost)))
    valued kinds.Ruser = seeing_items P _ (λ texts. rest (listfile.text_values kinds.Ruser (text_of texts items.Ruser)))
    valued kinds.Shell = finding P user (λ a. act (listfile.shell_values a)) (λ a. rest (listfile.shell_values a))
    valued kinds.Group = finding P user (listfile.reads_group_values user act) from_account

  applied : (s : PlainSettings) (user : List ℕ) (a : Applies) → Gives P (listfile.if_applies error s user a)
  applied s user Yes = valued user _ (looked_for s) s.item
  applied s user No = answering P returns.Ignore passed
  applied s user Unknown = answering P error failed

  module _ (user : List ℕ) (act : Applies → Act) (rest : (a : Applies) → Gives P (act a)) where
    among_passwds : (name : List ℕ) (es : Option (List Passwd)) → Gives P (listfile.applies_after_passwds name user act es)
    among_passwds name None = rest Unknown
    among_passwds name (Some es) = reading_groups P _ (λ gs. rest (listfile.applies_in_groups name user (entry_of user es) gs))

    scoped : (scope : PlainApply) → Gives P (listfile.applies scope user act)
    scoped everyone = rest Yes
    scoped (one name) = rest (listfile.yes_or_no (bytes_eq name user))
    scoped (members name) = reading_passwds P _ (among_passwds name)

  list_checked : P returns.ConvErr → (args : List (List ℕ)) (s : Option PlainSettings) → Gives P (listfile.checks_list error args s)
  list_checked silent args None = answering P error failed
  list_checked silent args (Some s) = asking P _ silent (λ user. scoped user _ (applied s user) (apply_of s.item args))

listed_so : (f : Func) (act : Act) → Gives (λ c. IsOneOf c listfile_rest) act
    → Gives (λ c. IsOneOf c (listfile_codes f)) (unless_answered (listfile.at_once f) act)
listed_so Authenticate act rest = rest
listed_so SetCred act rest = answering (λ c. IsOneOf c (returns.Success ∷ [])) returns.Success (inl refl)
listed_so AcctMgmt act rest = rest
listed_so OpenSession act rest = rest
listed_so CloseSession act rest = rest
listed_so ChAuthTok act rest = rest

pub lists : ReturnsOf listfile.listfile_plays listfile_codes
lists call room held sight =
    let P : Code → Type 0 = λ c. IsOneOf c listfile_rest in
    let error = listfile.error_answer call.args in
    let failed = either P (listfile.is_succeed (value_among (codes "onerr=") call.args)) returns.Success returns.ServiceErr (inl refl)
    (inr (inr (inr (inr (inl refl))))) in
    listed_so call.func _ (list_checked P error failed (inl refl) (inr (inl refl)) (inr (inr (inl refl))) (inr (inr (inr (inl refl)))) call.args
    (settings_of call.args)) _

-- ---- pam_succeed_if

module _ (P : Code → Type 0) (ends : P returns.Success) (denied : P returns.AuthErr) (failed : P returns.ServiceErr) (unknown : P returns.UserUnknown) where
  truly : (rest : Act) → Gives P rest → (t : Truth) → Gives P (succeed.rest_if_holds rest t)
  truly rest next truth.Holds = next
  truly rest next truth.Fails = answering P returns.AuthErr denied
  truly rest next truth.NoUser = answering P returns.UserUnknown unknown
  truly rest next truth.Faulty = answering P returns.ServiceErr failed

  module _ (user : List ℕ) (act : Truth → Act) (rest : (t : Truth) → Gives P (act t)) where
    in_groups : (sense : Bool) (names : List (List ℕ)) (es : Option (List Passwd)) → Gives P (succeed.tries_after_passwds sense names user act es)
    in_groups sense names None = rest truth.Faulty
    in_groups sense names (Some es) = reading_groups P _ (λ gs. rest (succeed.tried_in_groups sense names user (entry_of user es) gs))

    fielded : (f : Field) (test : PlainTest) → Gives P (succeed.tests_field f test user act)
    fielded (fields.Item item) test = seeing_items P _ (λ texts. rest (on_text test (succeed.item_text item texts)))
    fielded (fields.Account field) test = finding P user (λ a. act (succeed.on_account test field a)) (λ a. rest (succeed.on_account test field a))

    tried : (c : PlainCondition) → Gives P (succeed.tries c user act)
    tried (on field test) = fielded field test
    tried (grouped sense names) = reading_passwds P _ (in_groups sense names)

    tried_words : (c : Option PlainCondition) → Gives P (succeed.tries_words c user act)
    tried_words (Some c) = tried c
    tried_words None = rest truth.Faulty

  all_met : (args : List (List ℕ)) (user : List ℕ) → Gives P (succeed.meets_all args user)
  all_met [] user = answering P returns.Success ends
  all_met (field ∷ []) user = answering P returns.ServiceErr failed
  all_met (field ∷ word ∷ []) user = answering P returns.ServiceErr failed
  all_met (field ∷ word ∷ value ∷ rest) user = tried_words user _ (truly (succeed.meets_all rest user) (all_met rest user)) (condition_of field word value)

  conditions_checked : P returns.ConvErr → (args : List (List ℕ)) (b : Bool) → Gives P (succeed.unless_use_uid b args)
  conditions_checked silent args true = answering P returns.ServiceErr failed
  conditions_checked silent args false = asking P _ silent (all_met (succeed.conditions_in args))

succeeded_so : (f : Func) (act : Act) → Gives (λ c. IsOneOf c succeed_if_rest) act
    → Gives (λ c. IsOneOf c (succeed_if_codes f)) (unless_answered (succeed.at_once f) act)
succeeded_so Authenticate act rest = rest
succeeded_so SetCred act rest = answering (λ c. IsOneOf c (returns.Ignore ∷ [])) returns.Ignore (inl refl)
succeeded_so AcctMgmt act rest = rest
succeeded_so OpenSession act rest = rest
succeeded_so CloseSession act rest = rest
succeeded_so ChAuthTok act rest = rest

pub conditions : ReturnsOf succeed.succeed_if_plays succeed_if_codes
conditions call room held sight =
    let P : Code → Type 0 = λ c. IsOneOf c succeed_if_rest in
    succeeded_so call.func _ (conditions_checked P (inl refl) (inr (inl refl)) (inr (inr (inr (inl refl)))) (inr (inr (inr (inr (inl refl)))))
    (inr (inr (inl refl))) call.args (succeed.uses_uid call.args)) _
