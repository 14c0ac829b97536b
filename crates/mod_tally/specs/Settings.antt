-- The arguments of pam_faillock(8).
use Rattle.std.specs.Prelude.{ℕ, Bool, if◌then◌else◌, List, codes, Option, Some, None, unwrap_or}
use Rattle.std.specs.Option.{option_and_then}
use Rattle.std.specs.List.{filter_map, last_or}
use Rattle.std.specs.Str.{bytes_eq}
use Rattle.module_acts.specs.pam_room.specs.Call.{value_among}
use Rattle.module_acts.specs.Arguments.{has_argument, short_number}
use Rattle.mod_tally.specs.declared.settings.Task.{Task}
use Rattle.mod_tally.specs.declared.settings.Task.TheVariants.{Preauth, AuthFail, AuthSucc}
use Rattle.mod_tally.specs.declared.settings.TallySettings.{TallySettings}

-- what an authentication is to do: `preauth`, `authfail` or `authsucc`; the last one holds
abbrev pub task_word : List ℕ → Option Task
task_word arg =
    if bytes_eq arg (codes "preauth") then Some Preauth
    else if bytes_eq arg (codes "authfail") then Some AuthFail
    else if bytes_eq arg (codes "authsucc") then Some AuthSucc
    else None

abbrev pub task_among : List (List ℕ) → Option Task
task_among args = last_or None (filter_map task_word args)

-- a number of 1 to 9 digits; any other text counts as the default
abbrev pub number_among : List ℕ → ℕ → List (List ℕ) → ℕ
number_among key default args =
    unwrap_or (option_and_then (short_number 9) (value_among key args)) default

-- a lock that never ends by itself counts as 0
abbrev pub time_word : List ℕ → Option ℕ
time_word word = if bytes_eq word (codes "never") then Some 0 else short_number 9 word

abbrev pub unlock_among : List (List ℕ) → ℕ
unlock_among args =
    unwrap_or (option_and_then time_word (value_among (codes "unlock_time=") args)) 600

-- how many failures lock, within which time they count, how long a lock lasts, whether root may be locked, and the
-- directory of the files
pub record PlainSettings : Type 0 where
  pub deny : ℕ
  pub interval : ℕ
  pub unlock : ℕ
  pub locks_root : Bool
  pub folder : List ℕ

abbrev pub settings_of : List (List ℕ) → PlainSettings
settings_of args = record {
  deny = number_among (codes "deny=") 3 args;
  interval = number_among (codes "fail_interval=") 900 args;
  unlock = unlock_among args;
  locks_root = has_argument (codes "even_deny_root") args;
  folder = unwrap_or (value_among (codes "dir=") args) (codes "/var/run/faillock");
}

abbrev pub plain_settings : TallySettings → PlainSettings
plain_settings s = record {
  deny = s.deny;
  interval = s.interval;
  unlock = s.unlock;
  locks_root = s.locks_root;
  folder = s.folder.now;
}
