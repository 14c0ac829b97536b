-- The modules other than pam_faillock leave USER and all files.
use Rattle.std.proofs.Common.{◌≡◌, ℕ, Bool, true, false, cond, List, [], ◌∷◌, Option, Some, codes, refl, ap}
use Rattle.std.specs.Option.{option_or}
use Rattle.pam_base.specs.declared.code.Code.TheVariants as returns
use Rattle.mod_basic.specs.Request.{PlainRequest, delay, nothing, request_of, send, set_data}
use Rattle.mod_basic.specs.Permit.{permit_plays}
use Rattle.mod_basic.specs.Deny.{deny_plays}
use Rattle.mod_basic.specs.Debug.{debug_plays}
use Rattle.mod_basic.specs.Rootok.{rootok_plays}
use Rattle.mod_basic.specs.Probe.{Probing, probe_plays, probed, probed_all, probing, room_after}
use Rattle.mod_lists.specs.Listfile.{listfile_act}
use Rattle.mod_lists.specs.Nologin.{nologin_act}
use Rattle.mod_lists.specs.Shells.{shells_act}
use Rattle.mod_lists.specs.SucceedIf.{succeed_if_act}
use Rattle.mod_env.specs.Env.{env_act}
use Rattle.mod_unix.specs.Unix.{unix_act, unix_plays}
use Rattle.mod_history.specs.Wheel.{wheel_act}
use Rattle.mod_history.specs.Securetty.{securetty_act}
use Rattle.mod_history.specs.Pwhistory.{pwhistory_act}
use Rattle.pam_room.specs.Module.{SeenRoom}
use Rattle.laws_denial.specs.Leaving.{LeavesUserAndFiles, OthersLeave}
use Rattle.laws_denial.proofs.Steps.{answering, by_act, calls}
use Rattle.laws_denial.proofs.Lists.{listfile_leaves, nologin_leaves, shells_leaves, succeed_if_leaves}
use Rattle.laws_denial.proofs.Passwords.{authenticating}
use Rattle.laws_denial.proofs.Terminals.{securetty_leaves, wheel_leaves}

-- ---- the modules that decide at once

permits : LeavesUserAndFiles permit_plays
permits flags args room held sight user is = record { user_is = ap (λ (o : Option (List ℕ)). option_or o (Some (codes "nobody"))) is; files_are = refl }

denies : LeavesUserAndFiles deny_plays
denies flags args room held sight user is = record { user_is = is; files_are = refl }

debugs : LeavesUserAndFiles debug_plays
debugs flags args room held sight user is = record { user_is = is; files_are = refl }

roots : LeavesUserAndFiles rootok_plays
roots flags args room held sight user is = record { user_is = is; files_are = refl }

-- ---- pam_probe

request_leaves : (user : List ℕ) (request : PlainRequest) (room : SeenRoom) → room.items.user ≡ Some user → (room_after request room).items.user ≡ Some user
request_leaves user (set_data name payload) room is = is
request_leaves user (send style text) room is = is
request_leaves user (delay micros) room is = is
request_leaves user nothing room is = is

or_all : (user : List ℕ) (b : Bool) (x y : Probing) → x.room.items.user ≡ Some user → y.room.items.user ≡ Some user → (cond b x y).room.items.user ≡ Some user
or_all user true x y p q = p
or_all user false x y p q = q

all_leave : (user : List ℕ) (args : List (List ℕ)) (p : Probing) → p.room.items.user ≡ Some user → (probed_all args p).room.items.user ≡ Some user
all_leave user [] p is = is
all_leave user (arg ∷ args) p is =
    let next : Probing = probed (request_of arg) p in
    let there : next.room.items.user ≡ Some user = request_leaves user (request_of arg) p.room is in
    or_all user next.refused next (probed_all args next) there (all_leave user args next there)

probes : LeavesUserAndFiles probe_plays
probes flags args room held sight user is = record { user_is = all_leave user args (probing false room []) is; files_are = refl }

-- ---- pam_unix

pub unix_leaves : LeavesUserAndFiles unix_plays
unix_leaves = by_act unix_act (λ user flags args. authenticating user (calls flags args))

-- ---- all

pub others_leave : OthersLeave
others_leave = (
  permits,
  (
    denies,
    (
      debugs,
      (
        roots,
        (
          probes,
          (
            by_act listfile_act (λ user flags args. listfile_leaves user (calls flags args)),
            (
              by_act nologin_act (λ user flags args. nologin_leaves user (calls flags args)),
              (
                by_act shells_act (λ user flags args. shells_leaves user (calls flags args)),
                (
                  by_act succeed_if_act (λ user flags args. succeed_if_leaves user (calls flags args)),
                  (
                    by_act env_act (λ user flags args. answering user returns.Ignore),
                    (
                      unix_leaves,
                      (
                        by_act wheel_act (λ user flags args. wheel_leaves user (calls flags args)),
                        (
                          by_act securetty_act (λ user flags args. securetty_leaves user (calls flags args)),
                          (by_act pwhistory_act (λ user flags args. answering user returns.ModuleUnknown), tt),
                        ),
                      ),
                    ),
                  ),
                ),
              ),
            ),
          ),
        ),
      ),
    ),
  ),
)
