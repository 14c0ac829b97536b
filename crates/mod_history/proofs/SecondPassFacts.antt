-- The second pass of a change, step by step.
use Rattle.std.proofs.Common.{◌≡◌, ◌≢◌, ℕ, ◌==◌, nat_le, Bool, true, false, List, length, Option, Some, None, Result, Ok, Err, IfOk, refl, sym, ap, ◌∙◌, subst}
use Rattle.pam_base.specs.declared.code.Code.{Code}
use Rattle.pam_base.specs.declared.code.Code.TheVariants as returns
use Rattle.pam_base.specs.declared.fault.ConvErr.{ConvErr}
use Rattle.pam_base.specs.declared.fault.Refuse.{Refuse}
use Rattle.pam_base.specs.declared.item.ItemName.{ItemName}
use Rattle.item_store.specs.Items.{with_text}
use Rattle.conv_port.specs.Conv.{ConvState}
use Rattle.pam_outside.specs.Files.{VaultState}
use Rattle.pam_outside.specs.Time.{ClockState}
use Rattle.pam_room.specs.Call.{PlainCall}
use Rattle.pam_room.specs.Module.{Played, with_played}
use Rattle.pam_room.specs.Plain.{plain_process}
use Rattle.pam_room.specs.State.{PlainProcess, Scene, scene_of}
use Rattle.pam_room.specs.declared.process.Process.{Process}
use Rattle.pam_room.specs.declared.transaction.Transaction.{Transaction}
use Rattle.account_db.specs.declared.shadow.Shadow.{Shadow}
use Rattle.module_acts.specs.declared.content.Content.{Content}
use Rattle.module_acts.specs.Accounts.{Known}
use Rattle.module_acts.specs.Act.{Act, Acts, Yields, Reaches, StepsTo, reads_file, replaces_file, stage_of}
use Rattle.module_acts.specs.Returns.{Returns, scene_of_parts}
use Rattle.module_acts.specs.Steps.{sees_caller}
use Rattle.mod_unix.specs.declared.look.KnownPassword.{KnownPassword}
use Rattle.mod_unix.specs.declared.look.KnownPassword.TheVariants.{Unknown, Unavailable, Plain, Shadowed}
use Rattle.mod_unix.specs.Change.{write_result}
use Rattle.mod_history.specs.declared.history.Remembered.{Remembered}
use Rattle.mod_history.specs.History.{history_text}
use Rattle.mod_history.specs.Pwhistory.{stores_if_fits, unless_remember_zero, stores_unless_used, compares_token, history_in, history_limit, history_name, is_refused, locks_history, refuses_token, remember_in_history, remember_locked, remember_of, remembers, renew_if_known, renews, stores_text, unless_used, unsets_item}
use Rattle.mod_history.specs.Renewal.{hashes_of, renewed}

pub none_if : {A : Type 0} (o : Option A) → ((x : A) → o ≢ Some x) → o ≡ None
none_if None other = refl
none_if (Some x) other = absurd (other x refl)

-- ---- depending on what is known of the user

module _ (call : PlainCall) (user : List ℕ) (look : KnownPassword) (s : Scene) where
  pub by_unknown : look ≡ Unknown → Returns (Ok returns.UserUnknown) (renew_if_known call user look) s s
  unfolding renew_if_known
  by_unknown e = subst (λ (l : KnownPassword). Returns (Ok returns.UserUnknown) (renew_if_known call user l) s s) (sym e) (λ act known c end rest. rest)

  pub by_unavailable : look ≡ Unavailable → Returns (Ok returns.AuthtokErr) (renew_if_known call user look) s s
  unfolding renew_if_known
  by_unavailable e = subst (λ (l : KnownPassword). Returns (Ok returns.AuthtokErr) (renew_if_known call user l) s s) (sym e) (λ act known c end rest. rest)

  pub by_plain : (hash : List ℕ) (new : Scene) (r : Result Code (Refuse ConvErr)) → look ≡ Plain hash → Returns r (renews call user hash) s new → Returns r (renew_if_known call user look) s new
  unfolding renew_if_known
  by_plain hash new r e h = subst (λ (l : KnownPassword). Returns r (renew_if_known call user l) s new) (sym e) h

  pub by_shadow : (entry : Shadow) (new : Scene) (r : Result Code (Refuse ConvErr)) → look ≡ Shadowed entry → Returns r (renews call user entry.hash) s new → Returns r (renew_if_known call user look) s new
  unfolding renew_if_known
  by_shadow entry new r e h = subst (λ (l : KnownPassword). Returns r (renew_if_known call user l) s new) (sym e) h

-- ---- with the new token

module _ (call : PlainCall) (user hash : List ℕ) (found : Option (List ℕ)) (s : Scene) where
  pub no_token : found ≡ None → Yields returns.AuthtokErr (remembers call user hash found) s s
  unfolding remembers
  no_token e = subst (λ (t : Option (List ℕ)). Yields returns.AuthtokErr (remembers call user hash t) s s) (sym e) (λ act known c end rest. rest)

  module _ (token : List ℕ) (is : found ≡ Some token) where
    pub with_token : (code : Code) (new : Scene) → Yields code (remembers call user hash (Some token)) s new
        → Yields code (remembers call user hash found) s new
    with_token code new h = rw is h

    by_zero : (code : Code) (new : Scene) (none : Bool) → (remember_of call.args == 0) ≡ none → Yields code (unless_remember_zero none call (remember_of call.args) user hash token) s new → Yields code (remembers call user hash found) s new
    unfolding remembers
    by_zero code new none e h = subst (λ (t : Option (List ℕ)). Yields code (remembers call user hash t) s new) (sym is)
        (subst (λ (b : Bool). Yields code (unless_remember_zero b call (remember_of call.args) user hash token) s new) (sym e) h)

    pub not_remembered : (remember_of call.args == 0) ≡ true → Yields returns.Success (remembers call user hash found) s s
    not_remembered e = by_zero returns.Success s true e (λ act known c end rest. rest)

    pub compared : {E : Type 0} (content : Content) (history : Option (List Remembered)) (r : Result Code E) (mid new : Scene)
        → (remember_of call.args == 0) ≡ false → Yields content (reads_file history_name history_limit) s mid
        → history ≡ history_in content
        → IfOk r (λ code. Yields code (compares_token call (remember_of call.args) user hash token history) mid new)
        → IfOk r (λ code. Yields code (remembers call user hash found) s new)
    compared content history (Ok code) mid new e read h done = by_zero code new false e (λ act known c end rest.
        read (λ k. compares_token call (remember_of call.args) user hash token (history_in k) act) known c end
        (subst (λ (o : Option (List Remembered)). Acts (compares_token call (remember_of call.args) user hash token o act) known mid c end) h
        (done act known c end rest)))
    compared content history (Err e) mid new zero read h done = tt

-- ---- with the history

module _ (seeing : (act : ℕ → Act) (known : Known) (s : Scene) (code : Code) (new : Scene) → Acts (act s.process.caller) known s code new → Acts (sees_caller act) known s code new)
    (call : PlainCall) (remember : ℕ) (user hash token : List ℕ) (found : Option (List Remembered)) (s : Scene) where
  pub not_read : found ≡ None → Yields returns.AuthtokErr (compares_token call remember user hash token found) s s
  not_read e = subst (λ (o : Option (List Remembered)). Yields returns.AuthtokErr (compares_token call remember user hash token o) s s) (sym e) (λ act known c end rest. rest)

  pub no_history : found ≡ None → Yields (Some returns.AuthtokErr) (remember_in_history call remember user hash token found) s s
  no_history e = subst (λ (o : Option (List Remembered)). Yields (Some returns.AuthtokErr) (remember_in_history call remember user hash token o) s s) (sym e) (λ act known c end rest. rest)

  module _ (history : List Remembered) (is : found ≡ Some history) where
    -- before the lock is taken
    by_comparison : (code : Code) (new : Scene) (refused : Bool) → refused ≡ is_refused call.args s.process.caller token hash (hashes_of user history) → Yields code (unless_used refused call remember user hash token) s new
        → Yields code (compares_token call remember user hash token found) s new
    by_comparison code new refused e h = subst (λ (o : Option (List Remembered)). Yields code (compares_token call remember user hash token o) s new) (sym is)
        (λ act known c end rest. seeing (λ caller. unless_used (is_refused call.args caller token hash (hashes_of user history)) call remember user hash token act) known s c end
        (subst (λ (b : Bool). Acts (unless_used b call remember user hash token act) known s c end) e (h act known c end rest)))

    pub had : (new : Scene) → true ≡ is_refused call.args s.process.caller token hash (hashes_of user history) → Yields returns.AuthtokErr refuses_token s new → Yields returns.AuthtokErr (compares_token call remember user hash token found) s new
    had new e h = by_comparison returns.AuthtokErr new true e h

    pub had_not : {E : Type 0} (r : Result Code E) (new : Scene)
        → false ≡ is_refused call.args s.process.caller token hash (hashes_of user history)
        → IfOk r (λ code. Yields code (locks_history call remember user hash token) s new)
        → IfOk r (λ code. Yields code (compares_token call remember user hash token found) s new)
    had_not (Ok code) new e h = by_comparison code new false e h
    had_not (Err fault) new e h = tt

    -- under the lock
    by_refusal : (done : Option Code) (new : Scene) (refused : Bool) → refused ≡ is_refused call.args s.process.caller token hash (hashes_of user history) → Yields done (stores_unless_used refused remember user hash history) s new
        → Yields done (remember_in_history call remember user hash token found) s new
    by_refusal done new refused e h = subst (λ (o : Option (List Remembered)). Yields done (remember_in_history call remember user hash token o) s new) (sym is)
        (λ act known c end rest. seeing (λ caller. stores_unless_used (is_refused call.args caller token hash (hashes_of user history)) remember user hash history act) known s c end
        (subst (λ (b : Bool). Acts (stores_unless_used b remember user hash history act) known s c end) e (h act known c end rest)))

    pub used : true ≡ is_refused call.args s.process.caller token hash (hashes_of user history) → Yields None (remember_in_history call remember user hash token found) s s
    used e = by_refusal None s true e (λ act known c end rest. rest)

    pub not_used : (code : Code) (text : List ℕ) (new : Scene) → false ≡ is_refused call.args s.process.caller token hash (hashes_of user history) → text ≡ history_text (renewed remember user hash history)
        → Yields code (stores_text text) s new → Yields (Some code) (remember_in_history call remember user hash token found) s new
    not_used code text new e is h = by_refusal (Some code) new false e
        (λ act known c end rest. subst (λ (t : List ℕ). Acts (stores_text t (λ code. act (Some code))) known s c end) is (h (λ code. act (Some code)) known c end rest))

-- ---- the file

module _ (text : List ℕ) (s : Scene) where
  by_size : (code : Code) (new : Scene) (b : Bool) → nat_le (length text) history_limit ≡ b → Yields code (stores_if_fits b text) s new → Yields code (stores_text text) s new
  unfolding stores_text
  by_size code new b e h = subst (λ (x : Bool). Yields code (stores_if_fits x text) s new) (sym e) h

  pub too_long : nat_le (length text) history_limit ≡ false → Yields returns.AuthtokErr (stores_text text) s s
  too_long e = by_size returns.AuthtokErr s false e (λ act known c end rest. rest)

  pub short : (done : Bool) (code : Code) (new : Scene) → nat_le (length text) history_limit ≡ true → Yields done (replaces_file history_name text) s new → code ≡ write_result done → Yields code (stores_text text) s new
  short done code new e h is = by_size code new true e (λ act known c end rest. h (λ d. act (write_result d)) known c end (subst (λ (x : Code). Acts (act x) known new c end) is rest))

-- ---- a token that was used before

module _ (t u : Transaction) (conv : ConvState) (vault : VaultState) (clock : ClockState) (process : PlainProcess) where
  pub unsetting : (item : ItemName) → u ≡ record t { items = with_text t.items item None } → Reaches (unsets_item item) (scene_of_parts t conv vault clock process) (scene_of_parts u conv vault clock process)
  unfolding unsets_item
  unsetting item n = λ act known code end rest.
      let stage : unsets_item item act (stage_of known (scene_of_parts t conv vault clock process)) ≡ act (stage_of known (scene_of_parts u conv vault clock process)) = rw n refl in
      let scene : (p : Played) → with_played p (scene_of_parts u conv vault clock process) ≡ with_played p (scene_of_parts t conv vault clock process) = λ p. rw n refl in
      record {
        code_is = rest.code_is ∙ ap (λ (p : Played). p.code) (sym stage);
        scene_is = rest.scene_is ∙ scene (act (stage_of known (scene_of_parts u conv vault clock process))) ∙ ap (λ (p : Played). with_played p (scene_of_parts t conv vault clock process)) (sym stage);
      }

-- ---- the history is read again

module _ (call : PlainCall) (remember : ℕ) (user hash token : List ℕ) (content : Content) (history : Option (List Remembered))
    (process : Process) (old mid new : VaultState) where
  pub read_again : {E : Type 0} (r : Result (Option Code) E)
      → StepsTo (reads_file history_name history_limit) content process old mid → history ≡ history_in content
      → IfOk r (λ done. StepsTo (remember_in_history call remember user hash token history) done process mid new)
      → IfOk r (λ done. StepsTo (remember_locked call remember user hash token) done process old new)
  unfolding remember_locked
  read_again (Ok done) read is h = λ room clock act known code end rest.
      read room clock (λ k. remember_in_history call remember user hash token (history_in k) act) known code end
      (subst (λ (o : Option (List Remembered)). Acts (remember_in_history call remember user hash token o act) known
      (scene_of room mid clock (plain_process process)) code end) is (h room clock act known code end rest))
  read_again (Err e) read is h = tt
