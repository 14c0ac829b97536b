-- The token of an earlier module, and one that is asked for.
use Rattle.std.proofs.Common.{◌≡◌, ℕ, Bool, true, false, List, Option, Some, None, codes, Result, Ok, Err, ap, ◌∙◌}
use Rattle.pam_base.specs.declared.code.Code.{Code}
use Rattle.pam_base.specs.declared.code.Code.TheVariants as returns
use Rattle.pam_base.specs.declared.fault.ConvErr.{ConvErr}
use Rattle.pam_base.specs.declared.fault.Refuse.{Refuse}
use Rattle.pam_base.specs.declared.fault.Refuse.TheVariants.{NoMemory, Named}
use Rattle.item_store.specs.Items.{ItemTexts}
use Rattle.pam_room.specs.Call.{PlainCall}
use Rattle.pam_room.specs.State.{Scene}
use Rattle.module_acts.specs.Act.{Act, Acts, Reaches, sees_items}
use Rattle.module_acts.specs.Returns.{Returns, then_on}
use Rattle.module_acts.specs.Steps.{requests_delay}
use Rattle.mod_unix.specs.declared.authenticate.Authenticated.{Authenticated}
use Rattle.mod_unix.specs.declared.authenticate.Authenticated.TheVariants.{Kept, Unkept}
use Rattle.mod_unix.specs.declared.look.KnownPassword.{KnownPassword}
use Rattle.module_acts.specs.Arguments.{has_argument}
use Rattle.mod_unix.specs.Authenticate.{asks_password, judge_account, unless_open, first_pass_or_asks, delays, is_open, is_success, try_first, unless_success, verifies_token, with_first}
use Rattle.module_acts.specs.Accounts.{Known}
use Rattle.mod_unix.specs.Verify.{verified}

module _ (r : Result Authenticated (Refuse ConvErr)) (look : KnownPassword) (s new : Scene) where
  by_use : (use_first try : Bool) → true ≡ use_first → Returns r (λ act. sees_items (λ items. with_first look items.auth_tok act)) s new → Returns r (first_pass_or_asks use_first try look) s new
  by_use use_first try e h = rw (← e) h

  by_try : (use_first try : Bool) → false ≡ use_first → true ≡ try → Returns r (λ act. sees_items (λ items. try_first look items.auth_tok act)) s new → Returns r (first_pass_or_asks use_first try look) s new
  by_try use_first try e f h = rw (← e, ← f) h

  by_none : (use_first try : Bool) → false ≡ use_first → false ≡ try → Returns r (asks_password look) s new → Returns r (first_pass_or_asks use_first try look) s new
  by_none use_first try e f h = rw (← e, ← f) h

  nothing_tried : (found : Option (List ℕ)) → None ≡ found → Returns r (asks_password look) s new → Returns r (try_first look found) s new
  nothing_tried found e h = rw (← e) h

  unless : (done : Bool) → false ≡ done → Returns r (asks_password look) s new → Returns r (unless_success done look) s new
  unless done e h = rw (← e) h

  tried : (found : Option (List ℕ)) (token : List ℕ) (answer : Code) → Some token ≡ found → answer ≡ verified look token → false ≡ is_success answer → Returns r (asks_password look) s new → Returns r (try_first look found) s new
  tried found token answer e f g h = rw (← e) (unless (is_success (verified look token)) (g ∙ ap is_success f) h)

module _ (look : KnownPassword) (s : Scene) where
  succeeds : (done : Bool) → true ≡ done → Returns (Ok (Kept returns.Success)) (unless_success done look) s s
  succeeds done e = rw (← e) (λ act known code end rest. rest)

  tried_well : (found : Option (List ℕ)) (token : List ℕ) (answer : Code) → Some token ≡ found → answer ≡ verified look token → true ≡ is_success answer → Returns (Ok (Kept returns.Success)) (try_first look found) s s
  tried_well found token answer e f g = rw (← e) (succeeds (is_success (verified look token)) (g ∙ ap is_success f))

  first_there : (found : Option (List ℕ)) (token : List ℕ) (answer : Code) → Some token ≡ found → answer ≡ verified look token → Returns (Ok (Kept answer)) (with_first look found) s s
  first_there found token answer e f = rw (← e, ← f) (λ act known code end rest. rest)

  first_missing : (found : Option (List ℕ)) → None ≡ found → Returns (Ok (Unkept returns.AuthErr)) (with_first look found) s s
  first_missing found e = rw (← e) (λ act known code end rest. rest)

module _ (seeing : (act : ItemTexts → Act) (known : Known) (s : Scene) (code : Code) (new : Scene) → Acts (act s.room.transaction.items) known s code new → Acts (sees_items act) known s code new) (call : PlainCall) (look : KnownPassword) (s new : Scene) where
  seen : (r : Result Authenticated (Refuse ConvErr)) (pick : Option (List ℕ) → (Authenticated → Act) → Act) → Returns r (pick s.room.transaction.items.auth_tok) s new → Returns r (λ act. sees_items (λ items. pick items.auth_tok act)) s new
  seen (Ok v) pick h = λ act known code end rest. seeing (λ items. pick items.auth_tok act) known s code end (h act known code end rest)
  seen (Err (Named e)) pick h = λ act known. seeing (λ items. pick items.auth_tok act) known s returns.ConvErr new (h act known)
  seen (Err NoMemory) pick h = tt

  pub uses_token : (token : List ℕ) (answer : Code) → true ≡ has_argument (codes "use_first_pass") call.args → Some token ≡ s.room.transaction.items.auth_tok → answer ≡ verified look token → new ≡ s
      → Returns (Ok (Kept answer)) (verifies_token call look) s new
  unfolding verifies_token
  uses_token token answer use_first e f same = by_use (Ok (Kept answer)) look s new _ _ use_first (seen (Ok (Kept answer)) (with_first look) (rw same (first_there look s _ token answer e f)))

  pub lacks_token : true ≡ has_argument (codes "use_first_pass") call.args → None ≡ s.room.transaction.items.auth_tok → new ≡ s
      → Returns (Ok (Unkept returns.AuthErr)) (verifies_token call look) s new
  unfolding verifies_token
  lacks_token use_first e same = by_use (Ok (Unkept returns.AuthErr)) look s new _ _ use_first (seen (Ok (Unkept returns.AuthErr)) (with_first look) (rw same (first_missing look s _ e)))

  pub tries_well : (token : List ℕ) (answer : Code) → false ≡ has_argument (codes "use_first_pass") call.args → true ≡ has_argument (codes "try_first_pass") call.args → Some token ≡ s.room.transaction.items.auth_tok
      → answer ≡ verified look token → true ≡ is_success answer → new ≡ s → Returns (Ok (Kept returns.Success)) (verifies_token call look) s new
  unfolding verifies_token
  tries_well token answer use_first try e f g same = by_try (Ok (Kept returns.Success)) look s new _ _ use_first try (seen (Ok (Kept returns.Success)) (try_first look) (rw same (tried_well look s _ token answer e f g)))

  module _ (r : Result Authenticated (Refuse ConvErr)) (h : Returns r (asks_password look) s new) (use_first : false ≡ has_argument (codes "use_first_pass") call.args) where
    pub tries : (token : List ℕ) (answer : Code) → true ≡ has_argument (codes "try_first_pass") call.args → Some token ≡ s.room.transaction.items.auth_tok → answer ≡ verified look token → false ≡ is_success answer
        → Returns r (verifies_token call look) s new
    unfolding verifies_token
    tries token answer try e f g = by_try r look s new _ _ use_first try (seen r (try_first look) (tried r look s new _ token answer e f g h))

    pub tries_nothing : true ≡ has_argument (codes "try_first_pass") call.args → None ≡ s.room.transaction.items.auth_tok → Returns r (verifies_token call look) s new
    unfolding verifies_token
    tries_nothing try e = by_try r look s new _ _ use_first try (seen r (try_first look) (nothing_tried r look s new _ e h))

    pub asks : false ≡ has_argument (codes "try_first_pass") call.args → Returns r (verifies_token call look) s new
    unfolding verifies_token
    asks try = by_none r look s new _ _ use_first try h

-- ---- depending on what is known of the user

module _ (call : PlainCall) (look : KnownPassword) (s new : Scene) where
  by_opened : (r : Result Authenticated (Refuse ConvErr)) (opened : Bool) → false ≡ opened → Returns r (λ act. delays (has_argument (codes "nodelay") call.args) (verifies_token call look act)) s new → Returns r (unless_open opened call look) s new
  by_opened r opened e h = rw (← e) h

  by_delay : (r : Result Authenticated (Refuse ConvErr)) (nodelay : Bool) → true ≡ nodelay → Returns r (verifies_token call look) s new → Returns r (λ act. delays nodelay (verifies_token call look act)) s new
  by_delay r nodelay e h = rw (← e) h

  by_delayed : (r : Result Authenticated (Refuse ConvErr)) (nodelay : Bool) → false ≡ nodelay → Returns r (λ act. requests_delay 2000000 (verifies_token call look act)) s new → Returns r (λ act. delays nodelay (verifies_token call look act)) s new
  by_delayed r nodelay e h = rw (← e) h

  pub opens : true ≡ is_open call look → new ≡ s → Returns (Ok (Kept returns.Success)) (judge_account call look) s new
  unfolding judge_account
  opens e same = rw (← e, same) (λ act known code end rest. rest)

  pub goes_on : (r : Result Authenticated (Refuse ConvErr)) → false ≡ is_open call look → true ≡ has_argument (codes "nodelay") call.args → Returns r (verifies_token call look) s new → Returns r (judge_account call look) s new
  unfolding judge_account
  goes_on r e f h = by_opened r _ e (by_delay r _ f h)

  pub delays_then : (r : Result Authenticated (Refuse ConvErr)) (mid : Scene) → false ≡ is_open call look → false ≡ has_argument (codes "nodelay") call.args → Reaches (requests_delay 2000000) s mid → Returns r (verifies_token call look) mid new
      → Returns r (judge_account call look) s new
  unfolding judge_account
  delays_then r mid e f d h = by_opened r _ e (by_delayed r _ f (then_on (requests_delay 2000000) (verifies_token call look) r s mid new d h))
