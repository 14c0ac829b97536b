-- What acct_mgmt of pam_unix does with the user's entry.
use Rattle.std.proofs.Common.{◌≡◌, ◌≤◌, ℕ, Bool, true, false, List, [], length, Option, Some, None, Result, codes, unwrap_or, refl, ap, ◌∙◌}
use Rattle.std.proofs.lemmas.Bool.{le-ltb}
use Rattle.pam_base.specs.declared.call.Func.{Func}
use Rattle.pam_outside.specs.Files.{file_at}
use Rattle.pam_outside.specs.Paths.{path_of}
use Rattle.pam_room.specs.Say.{user_or_ask}
use Rattle.account_db.specs.declared.fault.DbFault.{DbFault}
use Rattle.account_db.specs.declared.passwd.Passwd.{Passwd}
use Rattle.account_db.specs.declared.shadow.Shadow.{Shadow}
use Rattle.module_acts.specs.declared.content.Content.{Content}
use Rattle.module_acts.specs.declared.content.Content.TheVariants as content
use Rattle.module_acts.specs.Accounts.{account_limit, nothing_known}
use Rattle.module_acts.specs.Act.{Act, Stage, answers, asks_user, content_seen, later, reads_file, with_user}
use Rattle.module_acts.specs.Content.{content_of}
use Rattle.module_acts.specs.Steps.{sees_clock}
use Rattle.mod_unix.specs.declared.look.KnownPassword.{KnownPassword}
use Rattle.mod_unix.specs.declared.look.KnownPassword.TheVariants.{Shadowed}
use Rattle.mod_unix.specs.Account.{account_by, checks_account}
use Rattle.mod_unix.specs.Aging.{aged, day_of}
use Rattle.mod_unix.specs.Look.{after_passwd, shadow_if_x, field_among, field_in, field_or_missing, is_x, looks, shadow_among, shadow_in, shadowed}
use Rattle.mod_unix.specs.Unix.{act_of_func}
use Rattle.laws_age.specs.Call.{GoesByTheEntry, HasEntry}

read_so : (failing : Bool) (found : Option (List ℕ)) (text : List ℕ) → failing ≡ false → found ≡ Some text → length text ≤ account_limit
    → content_of failing account_limit found ≡ content.Holds text
unfolding content_of
read_so true found text f is fits = absurd cc
read_so false found text f is fits =
    let short = le-ltb account_limit (length text) fits in
    rw is (rw short refl)

abbrev judges : KnownPassword → Act
judges look = account_by look answers

entry_code : (entry : Shadow) (stage : Stage) → (judges (Shadowed entry) stage).code ≡ aged (day_of stage.sight.clock.moment) entry
unfolding account_by sees_clock answers
entry_code entry stage = refl

module _ (user : List ℕ) (entry : Shadow) (stage : Stage) (fine : (n : ℕ) → stage.sight.failing n ≡ false)
    (h : HasEntry stage.sight.root stage.sight.files user entry) where
  abbrev first : Stage
  first = record stage { sight = later stage.sight }

  abbrev second : Stage
  second = record stage { sight = later (later stage.sight) }

  found_in_shadow : shadow_in user (content_seen (codes "/etc/shadow") account_limit first.sight) ≡ Shadowed entry
  found_in_shadow =
      ap (λ (c : Content). shadow_in user c) (read_so (stage.sight.failing 1) (file_at (path_of stage.sight.root (codes "/etc/shadow")) stage.sight.files)
      h.shadow (fine 1) h.shadow_is h.shadow_fits)
      ∙ ap (λ (r : Result (List Shadow) DbFault). shadow_among user r) h.entries_are
      ∙ ap (λ (o : Option Shadow). shadowed o) h.entry_is

  by_shadow : (shadow_if_x true user (codes "x") judges first).code ≡ aged (day_of stage.sight.clock.moment) entry
  unfolding reads_file
  by_shadow = ap (λ (k : KnownPassword). (judges k second).code) found_in_shadow ∙ entry_code entry second

  by_passwd : (after_passwd user (field_in user (content_seen (codes "/etc/passwd") account_limit stage.sight)) judges first).code
      ≡ aged (day_of stage.sight.clock.moment) entry
  by_passwd =
      ap (λ (c : Content). (after_passwd user (field_in user c) judges first).code)
      (read_so (stage.sight.failing 0) (file_at (path_of stage.sight.root (codes "/etc/passwd")) stage.sight.files) h.passwd (fine 0) h.passwd_is h.passwd_fits)
      ∙ ap (λ (r : Result (List Passwd) DbFault). (after_passwd user (field_among user r) judges first).code) h.accounts_are
      ∙ ap (λ (o : Option Passwd). (after_passwd user (field_or_missing o) judges first).code) h.account_is
      ∙ ap (λ (f : List ℕ). (shadow_if_x (is_x f) user f judges first).code) h.in_shadow
      ∙ by_shadow

  looked : (looks user judges stage).code ≡ aged (day_of stage.sight.clock.moment) entry
  unfolding looks reads_file
  looked = by_passwd

asked_by : (act : List ℕ → Act) (user : List ℕ) (found : Option (List ℕ)) (stage : Stage) → stage.room.items.user ≡ Some user → found ≡ Some user
    → (with_user (user_or_ask found stage.room) act stage).code ≡ (act user stage).code
asked_by act user (Some other) stage is e = ap (λ (o : Option (List ℕ)). (act (unwrap_or o []) stage).code) is
asked_by act user None stage is e = absurd cc

asked_first : (user : List ℕ) (entry : Shadow) (stage : Stage) → stage.room.items.user ≡ Some user → ((n : ℕ) → stage.sight.failing n ≡ false)
    → HasEntry stage.sight.root stage.sight.files user entry
    → (checks_account answers stage).code ≡ aged (day_of stage.sight.clock.moment) entry
unfolding checks_account asks_user
asked_first user entry stage is fine h =
    asked_by (λ u. looks u judges) user stage.room.items.user stage is is ∙ looked user entry stage fine h

pub goes_by_the_entry : GoesByTheEntry
goes_by_the_entry call room held sight user entry func is fine h =
    let stage : Stage = record { room = room; held = held; known = nothing_known; sight = sight } in
    ap (λ (f : Func). (act_of_func f call stage).code) func ∙ asked_first user entry stage is fine h
