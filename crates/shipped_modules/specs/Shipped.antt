-- The modules that the programs come with: the name of each, what its calls do, what its cleanups return, and what a call
-- may leave that runs out of memory (this project's own).
use Rattle.std.specs.Prelude.{ℕ, List, [], ◌∷◌, codes}
use Rattle.pam_room.specs.Module.{Breaks, Note, Player, Plays, keeps_files, length_note, never_breaks}
use Rattle.mod_basic.specs.Permit.{permit_plays}
use Rattle.mod_basic.specs.Deny.{deny_plays}
use Rattle.mod_basic.specs.Debug.{debug_plays}
use Rattle.mod_basic.specs.Rootok.{rootok_plays}
use Rattle.mod_basic.specs.Probe.{probe_note, probe_plays}
use Rattle.mod_lists.specs.Listfile.{listfile_plays}
use Rattle.mod_lists.specs.Nologin.{nologin_plays}
use Rattle.mod_lists.specs.Shells.{shells_plays}
use Rattle.mod_lists.specs.SucceedIf.{succeed_if_plays}
use Rattle.mod_env.specs.Env.{env_plays}
use Rattle.mod_unix.specs.Unix.{unix_plays}
use Rattle.mod_tally.specs.Faillock.{faillock_plays}
use Rattle.mod_history.specs.Wheel.{wheel_plays}
use Rattle.mod_history.specs.Securetty.{securetty_plays}
use Rattle.mod_history.specs.Pwhistory.{pwhistory_plays}

abbrev pub player : List ℕ → Plays → Note → Breaks → Player
player name plays note breaks = record {
  name = name;
  plays = plays;
  note = note;
  breaks = breaks;
}

-- a module that replaces no file if it runs out of memory
abbrev pub keeper : List ℕ → Plays → Player
keeper name plays = player name plays length_note keeps_files

-- one that takes no memory
abbrev pub steady : List ℕ → Plays → Player
steady name plays = player name plays length_note never_breaks

abbrev pub shipped_players : List Player
shipped_players =
    keeper (codes "pam_permit") permit_plays
    ∷ steady (codes "pam_deny") deny_plays
    ∷ steady (codes "pam_debug") debug_plays
    ∷ steady (codes "pam_rootok") rootok_plays
    ∷ player (codes "pam_probe") probe_plays probe_note keeps_files
    ∷ keeper (codes "pam_nologin") nologin_plays
    ∷ keeper (codes "pam_listfile") listfile_plays
    ∷ keeper (codes "pam_shells") shells_plays
    ∷ keeper (codes "pam_succeed_if") succeed_if_plays
    ∷ keeper (codes "pam_env") env_plays
    ∷ keeper (codes "pam_unix") unix_plays
    ∷ keeper (codes "pam_faillock") faillock_plays
    ∷ keeper (codes "pam_wheel") wheel_plays
    ∷ keeper (codes "pam_securetty") securetty_plays
    ∷ keeper (codes "pam_pwhistory") pwhistory_plays ∷ []
