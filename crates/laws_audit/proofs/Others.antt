-- The modules other than pam_faillock leave a user's file as it was.
use Rattle.std.proofs.Common.{◌≡◌, ◌⊎◌, inl, inr, ℕ, false, List, [], ◌∷◌, refl, subst, sym, zero, suc}
use Rattle.std.specs.List.{AllByRecursion}
use Rattle.pam_room.specs.Module.{Player, Plays}
use Rattle.mod_lists.specs.Listfile.{listfile_act}
use Rattle.mod_lists.specs.Nologin.{nologin_act}
use Rattle.mod_lists.specs.Shells.{shells_act}
use Rattle.mod_lists.specs.SucceedIf.{succeed_if_act}
use Rattle.mod_env.specs.Env.{env_act}
use Rattle.mod_unix.specs.Unix.{unix_act}
use Rattle.mod_history.specs.Wheel.{wheel_act}
use Rattle.mod_history.specs.Securetty.{securetty_act}
use Rattle.mod_history.specs.Pwhistory.{pwhistory_act}
use Rattle.mod_tally.specs.Faillock.{faillock_plays, is_no_file}
use Rattle.laws_audit.specs.Tallied.{FaillockAloneWrites, LeavesFile}
use Rattle.laws_audit.specs.Others.{AreKnown, IsAmong, IsApart, other_plays, tally_path}
use Rattle.laws_audit.proofs.Steps.{by_act}
use Rattle.laws_audit.proofs.Paths.{no_history, no_shadow}
use Rattle.laws_audit.proofs.Lists.{listfile_leaves, nologin_leaves, shells_leaves, succeed_if_leaves}
use Rattle.laws_audit.proofs.Envs.{env_leaves}
use Rattle.laws_audit.proofs.Unixes.{unix_leaves}
use Rattle.laws_audit.proofs.Histories.{pwhistory_leaves, securetty_leaves, wheel_leaves}

module _ (root folder user : List ℕ) (apart : IsApart folder) (named : is_no_file user ≡ false) where
  abbrev path : List ℕ
  path = tally_path root folder user

  pub others_leave : AllByRecursion (LeavesFile path) other_plays
  others_leave = (
    (λ call room held sight. refl),
    (
      (λ call room held sight. refl),
      (
        (λ call room held sight. refl),
        (
          (λ call room held sight. refl),
          (
            (λ call room held sight. refl),
            (
              by_act path listfile_act (listfile_leaves path),
              (
                by_act path nologin_act (nologin_leaves path),
                (
                  by_act path shells_act (shells_leaves path),
                  (
                    by_act path succeed_if_act (succeed_if_leaves path),
                    (
                      by_act path env_act (env_leaves path),
                      (
                        by_act path unix_act (unix_leaves path (no_shadow root folder user apart named)),
                        (
                          by_act path wheel_act (wheel_leaves path),
                          (
                            by_act path securetty_act (securetty_leaves path),
                            (
                              by_act path pwhistory_act (pwhistory_leaves path (no_history root folder user apart named)),
                              tt,
                            ),
                          ),
                        ),
                      ),
                    ),
                  ),
                ),
              ),
            ),
          ),
        ),
      ),
    ),
  )

  among : (all : List Plays) → AllByRecursion (LeavesFile path) all → (plays : Plays) → IsAmong plays all → LeavesFile path plays
  among [] leaves plays is = absurd is
  among (p ∷ ps) leaves plays (inl e) = subst (LeavesFile path) (sym e) leaves.0
  among (p ∷ ps) leaves plays (inr is) = among ps leaves.1 plays is

  by_kind : (plays : Plays) → IsAmong plays (faillock_plays ∷ other_plays) → (plays ≡ faillock_plays) ⊎ LeavesFile path plays
  by_kind plays (inl e) = inl e
  by_kind plays (inr is) = inr (among other_plays others_leave plays is)

  pub alone : (players : List Player) → AreKnown players → FaillockAloneWrites path players
  alone [] known n p e = absurd cc
  alone (q ∷ qs) known zero p e = subst (λ (x : Player). (x.plays ≡ faillock_plays) ⊎ LeavesFile path x.plays) (let same : q ≡ p = cc in same)
      (by_kind q.plays known.0)
  alone (q ∷ qs) known (suc n) p e = alone qs known.1 n p e
