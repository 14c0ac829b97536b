-- Configurations in which all failures count within the same time (pam.conf(5), pam_faillock(8);
-- the test is this project's own).
use Rattle.std.specs.Prelude.{◌≡◌, ℕ, List, Some}
use Rattle.control_words.specs.declared.nodes.Rule.{Rule}
use Rattle.control_words.specs.Stack.{Stack, none, line, sub}
use Rattle.service_load.specs.Stacks.{Stacks}
use Rattle.pam_room.specs.Module.{Player}
use Rattle.pam_library.specs.Plays.{module_of_path}
use Rattle.mod_tally.specs.Faillock.{faillock_plays}
use Rattle.mod_tally.specs.Settings.{settings_of}

-- this holds for each line of a stack
abbrev pub EachRule : (Rule → Type 0) → Stack → Type 0
EachRule Holds none = Unit {0}
EachRule Holds (line rule rest) = Holds rule × EachRule Holds rest
EachRule Holds (sub inner rest) = EachRule Holds inner × EachRule Holds rest

-- if the line's module is pam_faillock, this is its `fail_interval`, by its arguments or by default
abbrev pub CountsWithin : List Player → ℕ → Rule → Type 0
CountsWithin players interval rule =
    (p : Player) → module_of_path players rule.path ≡ Some p → p.plays ≡ faillock_plays →
    (settings_of rule.args).interval ≡ interval

-- so it is in each line of the four stacks of a service
pub record AllCountWithin (players : List Player) (interval : ℕ) (stacks : Stacks) : Type 0 where
  pub auth : EachRule (CountsWithin players interval) stacks.auth
  pub account : EachRule (CountsWithin players interval) stacks.account
  pub password : EachRule (CountsWithin players interval) stacks.password
  pub session : EachRule (CountsWithin players interval) stacks.session
