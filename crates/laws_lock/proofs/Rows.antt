-- A user who is locked, and the same user when the lock has ended, computed.
use Rattle.std.specs.Prelude.{◌≡◌, ℕ, false, [], ◌∷◌, Some, codes, refl}
use Rattle.pam_base.specs.declared.call.Func.TheVariants.{Authenticate}
use Rattle.pam_base.specs.declared.code.Code.TheVariants as returns
use Rattle.pam_base.specs.Lines.{cut, lines_of}
use Rattle.pam_base.specs.Parts.{parts_of}
use Rattle.pam_outside.specs.Paths.{path_of}
use Rattle.pam_room.specs.item_store.specs.Items.{no_texts}
use Rattle.pam_room.specs.Call.{PlainCall}
use Rattle.pam_room.specs.Module.{SeenRoom, Sight}
use Rattle.account_db.specs.Entries.{entries_of}
use Rattle.module_acts.specs.Act.{answers, asks_user, holds_lock, lets_go, reads_file, reads_passwds, sees_moment}
use Rattle.module_acts.specs.Content.{content_of}
use Rattle.mod_tally.specs.Faillock.{faillock_plays}
use Rattle.mod_tally.specs.Tally.{failures_of}

abbrev joe_calls : PlainCall
joe_calls = record { func = Authenticate; flags = 0; args = codes "preauth" ∷ [] }

abbrev joe_asks : SeenRoom
joe_asks = record {
  items = record no_texts { user = Some (codes "joe") };
  env = [];
  delay = 0;
  said = [];
  put_off = false;
  handle = 0;
  serving = 0;
  conv = record { offers = []; waits = false; handed = [] };
}

-- three failures, the last at 120, at this time
abbrev joe_failed_at : ℕ → Sight
joe_failed_at moment = record {
  files = record { path = path_of [] (codes "/etc/passwd"); bytes = codes "joe:x:1:1:::\n" }
      ∷ record { path = path_of [] (codes "/var/run/faillock/joe"); bytes = codes "faillock 1\n100\n110\n120\n" } ∷ [];
  failing = λ n. false;
  clock = record { moment = moment; word = 0 };
  root = [];
  caller = 0;
}

locked_at_719 : (faillock_plays joe_calls joe_asks [] (joe_failed_at 719)).code ≡ returns.AuthErr
unfolding asks_user reads_file reads_passwds sees_moment content_of answers failures_of path_of entries_of lines_of cut parts_of
locked_at_719 = refl

open_at_720 : (faillock_plays joe_calls joe_asks [] (joe_failed_at 720)).code ≡ returns.Success
unfolding asks_user reads_file reads_passwds sees_moment holds_lock lets_go content_of answers failures_of path_of entries_of lines_of cut parts_of
open_at_720 = refl
