-- What is done while the history is locked, and after that.
use Rattle.std.proofs.Common.{◌≡◌, ℕ, true, false, List, Option, Some, None, codes, sym, subst}
use Rattle.pam_base.specs.declared.code.Code.{Code}
use Rattle.pam_base.specs.declared.code.Code.TheVariants as returns
use Rattle.pam_base.specs.declared.item.ItemName.TheVariants.{AuthTok}
use Rattle.pam_outside.specs.declared.held.LockKind.TheVariants.{Record}
use Rattle.pam_room.specs.Call.{PlainCall}
use Rattle.pam_room.specs.State.{Scene}
use Rattle.module_acts.specs.Act.{Acts, Yields, Reaches, holds_lock, lets_go}
use Rattle.mod_history.specs.Pwhistory.{if_locked, locks_history, refuses_token, remember_locked, unless_refused, unsets_item}

module _ (call : PlainCall) (remember : ℕ) (user hash token : List ℕ) (s held : Scene) where
  pub not_locked : (new : Scene) → Yields false (holds_lock (codes "/etc/.pwd.lock") Record) s held → Reaches (unsets_item AuthTok) held new
      → Yields returns.AuthtokErr (locks_history call remember user hash token) s new
  unfolding locks_history
  not_locked new takes unsets = λ act known code end rest.
      takes (if_locked call remember user hash token act) known code end (unsets (act returns.AuthtokErr) known code end rest)

  module _ (stored free : Scene) (done : Option Code) (takes : Yields true (holds_lock (codes "/etc/.pwd.lock") Record) s held)
      (stores : Yields done (remember_locked call remember user hash token) held stored)
      (frees : Reaches (lets_go true) stored free) where
    pub renewed : (code : Code) → done ≡ Some code → Yields code (locks_history call remember user hash token) s free
    unfolding locks_history
    renewed code e = λ act known c end rest.
        takes (if_locked call remember user hash token act) known c end
        (stores (λ (d : Option Code). lets_go true (unless_refused act d)) known c end
        (frees (unless_refused act done) known c end (subst (λ (d : Option Code). Acts (unless_refused act d) known free c end) (sym e) rest)))

    pub refused : (new : Scene) → done ≡ None → Yields returns.AuthtokErr refuses_token free new
        → Yields returns.AuthtokErr (locks_history call remember user hash token) s new
    unfolding locks_history
    refused new e refuses = λ act known c end rest.
        takes (if_locked call remember user hash token act) known c end
        (stores (λ (d : Option Code). lets_go true (unless_refused act d)) known c end
        (frees (unless_refused act done) known c end
        (subst (λ (d : Option Code). Acts (unless_refused act d) known free c end) (sym e) (refuses act known c end rest))))
