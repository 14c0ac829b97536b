-- Test cases, computed on the definitions.
use Rattle.std.proofs.Common.{◌≡◌, ℕ, false, List, [], ◌∷◌, Some, None, codes, refl}
use Rattle.pam_base.specs.declared.code.Code.TheVariants as returns
use Rattle.pam_base.specs.declared.call.Func.{Func}
use Rattle.pam_base.specs.declared.call.Func.TheVariants.{Authenticate, SetCred, OpenSession, ChAuthTok}
use Rattle.pam_base.specs.declared.style.Style.TheVariants.{EchoOn, TextInfo}
use Rattle.conv_port.specs.declared.offer.Offer.{Offer}
use Rattle.conv_port.specs.declared.offer.Offer.TheVariants.{Answer}
use Rattle.pam_outside.specs.Files.{no_locks}
use Rattle.pam_room.specs.State.{State, new_transaction, room_of, state_of, world_of}
use Rattle.pam_room.specs.Call.{PlainCall}
use Rattle.pam_room.specs.Module.{Player, Played, Plays, keeps_files, seen_of, sight_of}
use Rattle.pam_room.specs.State.{scene_in}
use Rattle.pam_room.specs.Serve.{Answered, serve_line}
use Rattle.mod_basic.specs.Permit.{permit_plays}
use Rattle.mod_basic.specs.Deny.{deny_plays}
use Rattle.mod_basic.specs.Debug.{debug_plays}
use Rattle.mod_basic.specs.Rootok.{rootok_plays}
use Rattle.mod_basic.specs.Probe.{probe_plays, probe_note}

abbrev call_of : Func → ℕ → List (List ℕ) → PlainCall
call_of func flags args = record { func = func; flags = flags; args = args }

-- transaction 1 with this content of its conversation, in a process of this user
abbrev start : List Offer → ℕ → State
start offers caller = state_of
    (room_of (new_transaction 1) (record { offers = offers; waits = false; handed = [] }))
    (world_of (record { files = []; locks = no_locks; calls = 0; fails = [] }) (record { moment = 0; word = 0; draws = 0 }) (record { waits = 0; sum = 0 }) (record { ledger = record { births = []; filed = [] }; root = []; caller = caller }))

abbrev play : Plays → PlainCall → State → Played
play plays call s = plays call (seen_of s.room) [] (sight_of (scene_in s))

-- pam_deny for a session, pam_rootok for root and for another user
deny_session : (play deny_plays (call_of OpenSession 0 []) (start [] 0)).code ≡ returns.SessionErr
deny_session = refl

rootok_root : (play rootok_plays (call_of Authenticate 0 []) (start [] 0)).code ≡ returns.Success
rootok_root = refl

rootok_other : (play rootok_plays (call_of Authenticate 0 []) (start [] 1000)).code ≡ returns.AuthErr
rootok_other = refl

-- pam_debug: `auth=success cred=cred_err`, and the two passes of chauthtok
debug_setcred : (play debug_plays (call_of SetCred 2 (codes "auth=success" ∷ codes "cred=cred_err" ∷ [])) (start [] 0)).code ≡ returns.CredErr
debug_setcred = refl

debug_first_pass : (play debug_plays (call_of ChAuthTok 0x4000 (codes "prechauthtok=try_again" ∷ [])) (start [] 0)).code ≡ returns.TryAgain
debug_first_pass = refl

debug_second_pass : (play debug_plays (call_of ChAuthTok 0x2000 (codes "prechauthtok=try_again" ∷ [])) (start [] 0)).code ≡ returns.Success
debug_second_pass = refl

-- pam_permit makes an unknown user nobody
permit_user : (play permit_plays (call_of Authenticate 0 []) (start [] 0)).room.items.user ≡ Some (codes "nobody")
permit_user = refl

-- pam_probe `say=hi ask=Code:`, with one reply and with none
abbrev asks : PlainCall
asks = call_of Authenticate 0 (codes "say=hi" ∷ codes "ask=Code:" ∷ [])

probe_answered : (play probe_plays asks (start (Answer (codes "42") ∷ []) 0)).code ≡ returns.Success
probe_answered = refl

probe_refused : (play probe_plays asks (start [] 0)).code ≡ returns.ConvErr
probe_refused = refl

probe_said : (play probe_plays asks (start [] 0)).room.said ≡ record { style = TextInfo; text = codes "hi" } ∷ record { style = EchoOn; text = codes "Code:" } ∷ []
probe_said = refl

-- pam_probe `set=a:x set=a:yy`, served as a line: the first data set have their cleanup record at once, and the line
-- run is recorded
abbrev probe : Player
probe = record { name = codes "pam_probe"; plays = probe_plays; note = probe_note; breaks = keeps_files }

abbrev sets : Answered
sets = serve_line (probe ∷ []) (Some 0) 1 (codes "pam_probe.so") (call_of Authenticate 0 (codes "set=a:x" ∷ codes "set=a:yy" ∷ [])) (start [] 0)

sets_receipts : sets.state.world.process.ledger.filed ≡ record { receipt = record { id = 0; status = 0x20000000; note = 256 }; mark = 2 } ∷ []
sets_receipts = refl

sets_data : sets.state.room.transaction.datums.live ≡ record { id = 1; owner = 0; name = codes "a"; payload = codes "yy" } ∷ []
sets_data = refl

sets_visit : sets.state.room.transaction.trail ≡ record { place = 1; path = codes "pam_probe.so"; answer = returns.Success } ∷ []
sets_visit = refl

-- the same line if the module doesn't exist
missing : (serve_line (probe ∷ []) None 1 (codes "pam_none.so") (call_of Authenticate 0 []) (start [] 0)).answer ≡ returns.ModuleUnknown
missing = refl

-- the cleanup result of the third data set of `set=a:x set=a:yy set=a:zzz` at an end with status 0x40000007
note : probe_note (codes "zzz") 0x40000007 ≡ 775
note = refl
