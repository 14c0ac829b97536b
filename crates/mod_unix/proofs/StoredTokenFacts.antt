-- The second pass of a change.
use Rattle.std.proofs.Common.{◌≡◌, ℕ, Bool, true, false, List, Option, Some, None, codes, Result, Ok, Err, IfOk, sym, ap, ◌∙◌, subst}
use Rattle.pam_base.specs.declared.code.Code.{Code}
use Rattle.pam_base.specs.declared.code.Code.TheVariants as returns
use Rattle.pam_base.specs.declared.fault.ConvErr.{ConvErr}
use Rattle.pam_base.specs.declared.fault.Refuse.{Refuse}
use Rattle.pam_base.specs.declared.fault.Refuse.TheVariants.{NoMemory, Named}
use Rattle.pam_base.specs.declared.item.ItemName.TheVariants.{AuthTok}
use Rattle.conv_port.specs.declared.message.Reply.{Reply}
use Rattle.item_store.specs.Items.{ItemTexts}
use Rattle.pam_outside.specs.Time.{ClockState, Time, random_taken, time_of}
use Rattle.pam_room.specs.Call.{PlainCall, has_flag, prelim_check}
use Rattle.pam_outside.specs.Files.{VaultState}
use Rattle.pam_room.specs.Plain.{plain_process}
use Rattle.pam_room.specs.declared.process.Process.{Process}
use Rattle.pam_room.specs.State.{PlainProcess, PlainRoom, Scene, scene_of}
use Rattle.account_db.specs.declared.shadow.Shadow.{Shadow}
use Rattle.module_acts.specs.declared.content.Content.{Content}
use Rattle.module_acts.specs.Accounts.{Known, account_limit}
use Rattle.module_acts.specs.Act.{Act, Acts, Yields, Reaches, StepsTo, asks_user, draws_word, reads_file, replaces_file, sees_items}
use Rattle.module_acts.specs.Returns.{Returns, Ends, early, then}
use Rattle.module_acts.specs.Steps.{exchanges, sees_clock, sets_item}
use Rattle.mod_unix.specs.declared.look.KnownPassword.{KnownPassword}
use Rattle.mod_unix.specs.declared.look.KnownPassword.TheVariants.{Unknown, Unavailable, Plain, Shadowed}
use Rattle.mod_unix.specs.Aging.{day_of}
use Rattle.mod_unix.specs.Look.{looks}
use Rattle.module_acts.specs.Arguments.{has_argument}
use Rattle.mod_unix.specs.NewHash.{hashed_token}
use Rattle.mod_unix.specs.Change.{change_by, changes_token, authtok_or_asks, write_result, unless_token_is_kept, checks_or_changes, replaces_shadow, changed_shadow, changes_entry, changes_locked, changes_shadow, is_kept, new_prompts, same_reply, sets_new, stores_token, takes_token, tries_change, usable}

-- ---- the new token

module _ (call : PlainCall) (s new : Scene) where
  by_use : (r : Result (Option (List ℕ)) (Refuse ConvErr)) (b : Bool) → b ≡ has_argument (codes "use_authtok") call.args → Returns r (authtok_or_asks b) s new → Returns r (takes_token call) s new
  unfolding takes_token
  by_use r b e h = subst (λ (x : Bool). Returns r (authtok_or_asks x) s new) e h

  pub there : ((act : ItemTexts → Act) (known : Known) (s : Scene) (code : Code) (new : Scene) → Acts (act s.room.transaction.items) known s code new → Acts (sees_items act) known s code new)
      → (token found : Option (List ℕ)) → true ≡ has_argument (codes "use_authtok") call.args → token ≡ usable found → found ≡ s.room.transaction.items.auth_tok → new ≡ s → Returns (Ok token) (takes_token call) s new
  there seeing token found e f g same =
      let is : token ≡ usable s.room.transaction.items.auth_tok = f ∙ ap usable g in
      by_use (Ok token) true e (rw same (λ act known code end rest. seeing (λ items. act (usable items.auth_tok)) known s code end (subst (λ (x : Option (List ℕ)). Acts (act x) known s code end) is rest)))

  pub not_replied : (e : Refuse ConvErr) → false ≡ has_argument (codes "use_authtok") call.args → Ends e (exchanges new_prompts) s new → Returns (Err e) (takes_token call) s new
  not_replied e u h = by_use (Err e) false u (early (exchanges new_prompts) (λ replies (act : Option (List ℕ) → Act). sets_new (same_reply replies) act) e s new h)

  pub not_same : (replies : List Reply) → false ≡ has_argument (codes "use_authtok") call.args → Yields replies (exchanges new_prompts) s new → None ≡ same_reply replies → Returns (Ok None) (takes_token call) s new
  not_same replies u h e = by_use (Ok None) false u (λ act known code end rest.
      h (λ r. sets_new (same_reply r) act) known code end (subst (λ (x : Option (List ℕ)). Acts (sets_new x act) known new code end) e rest))

  pub same : (replies : List Reply) (token : List ℕ) (mid : Scene) → false ≡ has_argument (codes "use_authtok") call.args → Yields replies (exchanges new_prompts) s mid → Some token ≡ same_reply replies → Reaches (sets_item AuthTok token) mid new
      → Returns (Ok (Some token)) (takes_token call) s new
  same replies token mid u h e d = by_use (Ok (Some token)) false u (λ act known code end rest.
      h (λ r. sets_new (same_reply r) act) known code end (subst (λ (x : Option (List ℕ)). Acts (sets_new x act) known mid code end) e (d (act (Some token)) known code end rest)))

-- ---- the new hash

module _ (user hash : List ℕ) (today : ℕ) (content : Content) (s mid : Scene) (read : Yields content (reads_file (codes "/etc/shadow") account_limit) s mid) where
  pub not_changed : None ≡ changed_shadow user hash today content → Yields returns.AuthtokErr (changes_locked user hash today) s mid
  unfolding changes_locked
  not_changed e = λ act known code end rest. read (λ c. replaces_shadow (changed_shadow user hash today c) act) known code end (subst (λ (x : Option (List ℕ)). Acts (replaces_shadow x act) known mid code end) e rest)

  pub changed : (new : Scene) (text : List ℕ) (done : Bool) → Some text ≡ changed_shadow user hash today content → Yields done (replaces_file (codes "/etc/shadow") text) mid new → Yields (write_result done) (changes_locked user hash today) s new
  unfolding changes_locked
  changed new text done e d = λ act known code end rest. read (λ c. replaces_shadow (changed_shadow user hash today c) act) known code end
      (subst (λ (x : Option (List ℕ)). Acts (replaces_shadow x act) known mid code end) e (d (λ b. act (write_result b)) known code end rest))

-- a random word is taken for the salt
module _ (seeing : (act : Time → Act) (known : Known) (s : Scene) (code : Code) (new : Scene)
    → Acts (act (time_of s.clock)) known s code new → Acts (sees_clock act) known s code new)
    (drawing : (act : ℕ → Act) (known : Known) (room : PlainRoom) (vault : VaultState) (clock : ClockState) (process : PlainProcess) (code : Code) (new : Scene)
    → Acts (act clock.word) known (scene_of room vault (random_taken clock) process) code new → Acts (draws_word act) known (scene_of room vault clock process) code new)
    (call : PlainCall) (user : List ℕ) (room : PlainRoom) (vault new : VaultState) (clock : ClockState) (process : Process)
    (token : List ℕ) (today word : ℕ) (day : today ≡ day_of clock.moment) (random : word ≡ clock.word)
    (hash : List ℕ) (is : hash ≡ hashed_token call.args word token) where
  written : (code : Code) → StepsTo (changes_shadow user hash today) code process vault new
      → Yields code (stores_token call user (Some token)) (scene_of room vault clock (plain_process process))
      (scene_of room new (random_taken clock) (plain_process process))
  unfolding stores_token
  written code h = λ act known c end rest.
      let before = scene_of room vault (random_taken clock) (plain_process process) in
      let made : hash ≡ hashed_token call.args clock.word token = is ∙ ap (λ w. hashed_token call.args w token) random in
      let done = h room (random_taken clock) act known c end rest in
      let changed = subst (λ (m : List ℕ). Acts (changes_shadow user m (day_of clock.moment) act) known before c end) made
      (subst (λ t. Acts (changes_shadow user hash t act) known before c end) day done) in
      seeing (λ time. draws_word (λ w. changes_shadow user (hashed_token call.args w token) (day_of time.moment) act)) known
      (scene_of room vault clock (plain_process process)) c end
      (drawing (λ w. changes_shadow user (hashed_token call.args w token) (day_of clock.moment) act) known room vault clock
      (plain_process process) c end changed)

  pub made : {E : Type 0} (r : Result Code E) (found : Option (List ℕ)) → found ≡ Some token
      → IfOk r (λ code. StepsTo (changes_shadow user hash today) code process vault new)
      → IfOk r (λ code. Yields code (stores_token call user found) (scene_of room vault clock (plain_process process))
      (scene_of room new (random_taken clock) (plain_process process)))
  made (Ok code) found some h = rw some (written code h)
  made (Err e) found some h = tt

module _ (seeing : (act : Time → Act) (known : Known) (s : Scene) (code : Code) (new : Scene) → Acts (act (time_of s.clock)) known s code new → Acts (sees_clock act) known s code new) (call : PlainCall) (user : List ℕ) (s new : Scene) where
  pub no_token : new ≡ s → (token : Option (List ℕ)) → token ≡ None → Yields returns.AuthtokErr (stores_token call user token) s new
  unfolding stores_token
  no_token same token e = rw (e, same) (λ act known code end rest. rest)

  -- ---- both passes

  module _ (entry : Shadow) (today : ℕ) (day : today ≡ day_of s.clock.moment) where
    by_day : (r : Result Code (Refuse ConvErr)) (b : Bool) → b ≡ is_kept call today entry → Returns r (unless_token_is_kept b call user today entry) s new → Returns r (changes_entry call user entry) s new
    unfolding changes_entry
    by_day (Ok v) b e h = λ act known c end rest. seeing (λ clock. unless_token_is_kept (is_kept call (day_of clock.moment) entry) call user (day_of clock.moment) entry act) known s c end
        (subst (λ t. Acts (unless_token_is_kept (is_kept call t entry) call user t entry act) known s c end) day (subst (λ (x : Bool). Acts (unless_token_is_kept x call user today entry act) known s c end) e (h act known c end rest)))
    by_day (Err (Named n)) b e h = λ act known. seeing (λ clock. unless_token_is_kept (is_kept call (day_of clock.moment) entry) call user (day_of clock.moment) entry act) known s returns.ConvErr new
        (subst (λ t. Acts (unless_token_is_kept (is_kept call t entry) call user t entry act) known s returns.ConvErr new) day (subst (λ (x : Bool). Acts (unless_token_is_kept x call user today entry act) known s returns.ConvErr new) e (h act known)))
    by_day (Err NoMemory) b e h = tt

    pub kept : true ≡ is_kept call today entry → new ≡ s → Returns (Ok returns.Success) (changes_entry call user entry) s new
    kept e same = by_day (Ok returns.Success) true e (rw same (λ act known c end rest. rest))

    by_flag : (r : Result Code (Refuse ConvErr)) (b : Bool) → b ≡ has_flag call.flags prelim_check → Returns r (checks_or_changes b call user today entry) s new → Returns r (unless_token_is_kept false call user today entry) s new
    by_flag r b e h = subst (λ (x : Bool). Returns r (checks_or_changes x call user today entry) s new) e h

    pub first_pass : (r : Result Code (Refuse ConvErr)) → false ≡ is_kept call today entry → true ≡ has_flag call.flags prelim_check → Returns r (tries_change today entry) s new → Returns r (changes_entry call user entry) s new
    first_pass r e f h = by_day r false e (by_flag r true f h)

    pub not_taken : (e : Refuse ConvErr) → false ≡ is_kept call today entry → false ≡ has_flag call.flags prelim_check → Returns {A = Option (List ℕ)} (Err e) (takes_token call) s new → Returns (Err e) (changes_entry call user entry) s new
    not_taken e k f h = by_day (Err e) false k (by_flag (Err e) false f (early (takes_token call) (λ token (act : Code → Act). stores_token call user token act) e s new h))

    pub stored : (token : Option (List ℕ)) (code : Code) (mid : Scene) → false ≡ is_kept call today entry → false ≡ has_flag call.flags prelim_check → Returns (Ok token) (takes_token call) s mid → Yields code (stores_token call user token) mid new
        → Returns (Ok code) (changes_entry call user entry) s new
    stored token code mid k f h d = by_day (Ok code) false k (by_flag (Ok code) false f (then (takes_token call) (λ t (act : Code → Act). stores_token call user t act) (Ok code) token s mid new h d))

-- ---- depending on what is known of the user

module _ (call : PlainCall) (user : List ℕ) (look : KnownPassword) (s : Scene) where
  pub by_unknown : look ≡ Unknown → Returns (Ok returns.UserUnknown) (change_by call user look) s s
  unfolding change_by
  by_unknown e = subst (λ (l : KnownPassword). Returns (Ok returns.UserUnknown) (change_by call user l) s s) (sym e) (λ act known c end rest. rest)

  pub by_unavailable : look ≡ Unavailable → Returns (Ok returns.AuthinfoUnavail) (change_by call user look) s s
  unfolding change_by
  by_unavailable e = subst (λ (l : KnownPassword). Returns (Ok returns.AuthinfoUnavail) (change_by call user l) s s) (sym e) (λ act known c end rest. rest)

  pub by_plain : (hash : List ℕ) → look ≡ Plain hash → Returns (Ok returns.AuthtokErr) (change_by call user look) s s
  unfolding change_by
  by_plain hash e = subst (λ (l : KnownPassword). Returns (Ok returns.AuthtokErr) (change_by call user l) s s) (sym e) (λ act known c end rest. rest)

  pub by_shadow : (entry : Shadow) (new : Scene) (r : Result Code (Refuse ConvErr)) → look ≡ Shadowed entry → Returns r (changes_entry call user entry) s new → Returns r (change_by call user look) s new
  unfolding change_by
  by_shadow entry new r e h = subst (λ (l : KnownPassword). Returns r (change_by call user l) s new) (sym e) h

-- the user was asked for, and what is known of the password was looked up
module _ (call : PlainCall) (user : List ℕ) (look : KnownPassword) (s mid after : Scene)
    (asked : Yields user asks_user s mid) (found : Yields look (looks user) mid after) where
  pub by_look : (r : Result Code (Refuse ConvErr)) (new : Scene) → Returns r (change_by call user look) after new
      → Returns r (changes_token call) s new
  unfolding changes_token
  by_look r new h = then asks_user (λ user (act : Code → Act). looks user (λ look. change_by call user look act)) r user s mid new
      asked (then (looks user) (λ look (act : Code → Act). change_by call user look act) r look mid after new found h)
