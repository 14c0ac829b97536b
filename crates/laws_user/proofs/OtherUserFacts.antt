-- Calls of other users leave what a user's call looks at.
use Rattle.std.proofs.Common.{◌≡◌, ◌≢◌, ℕ, Bool, true, true≢false, List, [], ◌∷◌, codes, refl, sym, ap, ◌∙◌, subst}
use Rattle.std.proofs.lemmas.List.{append_cancel_left}
use Rattle.std.proofs.lemmas.Slice.Eq.{bytes_eq-Decides}
use Rattle.pam_base.specs.declared.call.Func.{Func}
use Rattle.pam_base.specs.declared.call.Func.TheVariants.{Authenticate, SetCred, AcctMgmt, OpenSession, CloseSession, ChAuthTok}
use Rattle.pam_base.specs.declared.code.Code.{Code}
use Rattle.pam_outside.specs.Files.{File, file_at}
use Rattle.pam_outside.specs.Paths.{path_of, root_before}
use Rattle.pam_room.specs.Module.{Player}
use Rattle.account_db.specs.declared.shadow.Shadow.{Shadow}
use Rattle.account_db.specs.Shadow.{shadow_of}
use Rattle.mod_tally.specs.Faillock.{tally_name}
use Rattle.laws_module.specs.Others.{IsShadow}
use Rattle.laws_module.specs.OwnEntry.{OthersIn}
use Rattle.laws_user.specs.Calls.{CallsWriteOwn, IsNotReplaced, KeepsOthers, OthersDontMatterToCalls}
use Rattle.laws_user.specs.Logins.{CallsDontMatter, IsElsewhere, OthersCall, UserCall, files_after}
use Rattle.laws_user.specs.Users.{LookSame}

other_name : (root a b : List ℕ) → a ≢ b → path_of root a ≢ path_of root b
unfolding path_of
other_name root a b differs same = differs (append_cancel_left (root_before root) a b same)

-- a file that isn't shadow is replaced by no function
not_replaced : (func : Func) (root path : List ℕ) → path_of root (codes "/etc/shadow") ≢ path → IsNotReplaced func root path
not_replaced ChAuthTok root path other = other
not_replaced Authenticate root path other = tt
not_replaced SetCred root path other = tt
not_replaced AcctMgmt root path other = tt
not_replaced OpenSession root path other = tt
not_replaced CloseSession root path other = tt

module _ (writes : CallsWriteOwn) (players : List Player) (number_of : Code → ℕ → ℕ) (folder user root : List ℕ) where
  -- what a call of another user leaves, with the root of this one
  keeps : (c : UserCall) (before after : List File) (cs : List UserCall) → OthersCall players number_of folder user root before (c ∷ cs) after
      → KeepsOthers c.func folder c.user root before (files_after players number_of c)
  keeps c before after cs log =
      let all = writes players number_of c.func c.flags folder c.user c.handle c.world log.0.lines log.0.user_is log.0.is_timely in
      subst (λ (r : List ℕ). KeepsOthers c.func folder c.user r before (files_after players number_of c)) log.2
      (subst (λ (fs : List File). KeepsOthers c.func folder c.user c.world.process.root fs (files_after players number_of c)) log.1 all)

  -- a file that isn't shadow or the tally of one of the others stays
  stays : (path : List ℕ) → path_of root (codes "/etc/shadow") ≢ path → ((other : List ℕ) → IsElsewhere folder user root other → other ≢ path)
      → (others : List UserCall) (before after : List File) → OthersCall players number_of folder user root before others after
      → file_at path after ≡ file_at path before
  stays path no_shadow apart [] before after log = ap (file_at path) log
  stays path no_shadow apart (c ∷ cs) before after log =
      stays path no_shadow apart cs (files_after players number_of c) after log.4
      ∙ (keeps c before after cs log).files path (apart (path_of root (tally_name folder c.user)) log.3) (not_replaced c.func root path no_shadow)

  -- the user's entry stays
  entry_stays : (entries : List Shadow) (others : List UserCall) (before after : List File) → IsShadow root before entries
      → OthersCall players number_of folder user root before others after
      → (later : List Shadow) × IsShadow root after later × (shadow_of user later ≡ shadow_of user entries)
  entry_stays entries [] before after s log = (entries, subst (λ (fs : List File). IsShadow root fs entries) (sym log) s, refl)
  entry_stays entries (c ∷ cs) before after s log =
      let left : OthersIn c.user root entries (files_after players number_of c) = (keeps c before after cs log).entries log.3.shadow entries s in
      let differs : user ≢ c.user = λ e. log.3.tally (ap (λ (u : List ℕ). path_of root (tally_name folder u)) (sym e)) in
      let rest = entry_stays left.changed cs (files_after players number_of c) after left.shadow_is log.4 in
      (rest.0, rest.1, rest.2 ∙ left.stay user differs)

  look_same : (entries : List Shadow) (others : List UserCall) (before after : List File) → IsShadow root before entries
      → path_of root (tally_name folder user) ≢ path_of root (codes "/etc/shadow")
      → OthersCall players number_of folder user root before others after → LookSame folder user root before after
  look_same entries others before after shadow distinct log =
      let later = entry_stays entries others before after shadow log in
      record {
        agree = record {
          passwd = stays (path_of root (codes "/etc/passwd")) (other_name root (codes "/etc/shadow") (codes "/etc/passwd") (λ e. true≢false (sym ((bytes_eq-Decides (codes "/etc/shadow") (codes "/etc/passwd")).1 e)))) (λ other e. e.passwd)
              others before after log;
          entries = entries;
          first = shadow;
          later = later.0;
          second = later.1;
          entry = later.2;
        };
        tally = stays (path_of root (tally_name folder user)) (λ e. distinct (sym e)) (λ other e. e.tally) others before after log;
      }

pub calls_dont_matter : OthersDontMatterToCalls → CallsWriteOwn → CallsDontMatter
calls_dont_matter same writes players number_of folder c entries others after own shadow room room_after distinct log =
    same players number_of c.func c.flags folder c.user c.handle c.world after own.lines own.user_is own.is_timely distinct (record {
      look = look_same writes players number_of folder c.user c.world.process.root entries others c.world.vault.files after shadow distinct log;
      here = room;
      there = room_after;
    })
