-- What is seen by a module that only decides (this project's own).
use Rattle.std.specs.Prelude.{ℕ, List, [], unwrap_or}
use Rattle.conv_port.specs.Conv.{ConvState}
use Rattle.pam_outside.specs.Files.{VaultState}
use Rattle.pam_outside.specs.Time.{ClockState}
use Rattle.pam_room.specs.State.{Scene}
use Rattle.module_acts.specs.Act.{scene_at}
use Rattle.module_acts.specs.declared.seen.CheckInput.{CheckInput}

-- the user's name, which is set
abbrev pub user_seen : CheckInput → List ℕ
user_seen seen = unwrap_or seen.transaction.now.items.user []

-- the same with what the conversation, the files and the clock hold
abbrev pub scene_seen : CheckInput → ConvState → VaultState → ClockState → Scene
scene_seen seen conv vault clock = scene_at seen.transaction.now conv vault clock seen.process.now
