-- The first pass of a change.
use Rattle.std.proofs.Common.{◌≡◌, ℕ, Bool, true, false, ◌==◌, List, [], Option, Some, unwrap_or, Result, Ok, Err, ◌∷◌, length, ◌∙◌, subst, arith}
use Rattle.std.proofs.lemmas.Bool.Decides.{nat_tests}
use Rattle.pam_base.specs.declared.code.Code.{Code}
use Rattle.pam_base.specs.declared.code.Code.TheVariants as returns
use Rattle.pam_base.specs.declared.fault.ConvErr.{ConvErr}
use Rattle.pam_base.specs.declared.fault.Refuse.{Refuse}
use Rattle.pam_base.specs.declared.fault.Refuse.TheVariants.{NoMemory, Named}
use Rattle.pam_room.specs.State.{Scene}
use Rattle.account_db.specs.declared.shadow.Shadow.{Shadow}
use Rattle.module_acts.specs.Act.{Act, Acts}
use Rattle.module_acts.specs.Returns.{Returns}
use Rattle.module_acts.specs.Steps.{sees_caller}
use Rattle.mod_unix.specs.Authenticate.{is_empty}
use Rattle.mod_unix.specs.Change.{asks_old, unless_too_early, asks_old_unless_empty, unless_caller_is_root, is_too_early, tries_change}
use Rattle.module_acts.specs.Accounts.{Known}
use Rattle.mod_unix.specs.Verify.{hash_verified}

-- the token in an item was verified
pub verified_so : (hash : List ℕ) (found : Option (List ℕ)) (token : List ℕ) (answer : Code) (act : Code → Act) (known : Known) (s end : Scene) (code : Code) → Some token ≡ found → answer ≡ hash_verified hash token
    → Acts (act answer) known s code end → Acts (act (hash_verified hash (unwrap_or found []))) known s code end
verified_so hash found token answer act known s end code e f rest = rw (← e, ← f) rest

pub empty_is : (hash : List ℕ) (b : Bool) → b ≡ (length hash == 0) → b ≡ is_empty hash
empty_is [] b e = e
empty_is (x ∷ xs) b e = e ∙ (let more : (length (x ∷ xs) == 0) ≡ false = grind (arith, nat_tests) in more)

module _ (seeing : (act : ℕ → Act) (known : Known) (s : Scene) (code : Code) (new : Scene) → Acts (act s.process.caller) known s code new → Acts (sees_caller act) known s code new) (today : ℕ) (entry : Shadow) (s new : Scene) where
  seen : (r : Result Code (Refuse ConvErr)) (root : Bool) → root ≡ (s.process.caller == 0) → Returns r (unless_caller_is_root root today entry) s new → Returns r (tries_change today entry) s new
  unfolding tries_change
  seen (Ok v) root e h = λ act known code end rest. seeing (λ caller. unless_caller_is_root (caller == 0) today entry act) known s code end (rw (← e) (h act known code end rest))
  seen (Err (Named n)) root e h = λ act known. seeing (λ caller. unless_caller_is_root (caller == 0) today entry act) known s returns.ConvErr new (rw (← e) (h act known))
  seen (Err NoMemory) root e h = tt

  pub is_root : true ≡ (s.process.caller == 0) → new ≡ s → Returns (Ok returns.Success) (tries_change today entry) s new
  is_root e same = seen (Ok returns.Success) true e (rw same (λ act known code end rest. rest))

  early : (r : Result Code (Refuse ConvErr)) (b : Bool) → b ≡ is_too_early today entry.last_change entry.min → Returns r (unless_too_early b entry) s new → Returns r (unless_caller_is_root false today entry) s new
  early r b e h = subst (λ (x : Bool). Returns r (unless_too_early x entry) s new) e h

  pub is_early : false ≡ (s.process.caller == 0) → true ≡ is_too_early today entry.last_change entry.min → new ≡ s → Returns (Ok returns.AuthtokErr) (tries_change today entry) s new
  is_early e f same = seen (Ok returns.AuthtokErr) false e (early (Ok returns.AuthtokErr) true f (rw same (λ act known code end rest. rest)))

  emptied : (r : Result Code (Refuse ConvErr)) (b : Bool) → b ≡ is_empty entry.hash → Returns r (asks_old_unless_empty b entry) s new → Returns r (unless_too_early false entry) s new
  emptied r b e h = subst (λ (x : Bool). Returns r (asks_old_unless_empty x entry) s new) e h

  pub is_open : false ≡ (s.process.caller == 0) → false ≡ is_too_early today entry.last_change entry.min → true ≡ is_empty entry.hash → new ≡ s → Returns (Ok returns.Success) (tries_change today entry) s new
  is_open e f g same = seen (Ok returns.Success) false e (early (Ok returns.Success) false f (emptied (Ok returns.Success) true g (rw same (λ act known code end rest. rest))))

  pub asks : (r : Result Code (Refuse ConvErr)) → false ≡ (s.process.caller == 0) → false ≡ is_too_early today entry.last_change entry.min → false ≡ is_empty entry.hash → Returns r (asks_old entry) s new → Returns r (tries_change today entry) s new
  asks r e f g h = seen r false e (early r false f (emptied r false g h))
