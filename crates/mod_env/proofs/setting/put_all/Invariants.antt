use Rattle.std.proofs.Common.{length}
use Rattle.conv_port.specs.Conv.{ConvState}
use Rattle.pam_base.specs.declared.code.Code.{Code}
use Rattle.pam_outside.specs.Files.{VaultState}
use Rattle.pam_outside.specs.Time.{ClockState}
use Rattle.module_acts.specs.pam_room.specs.declared.process.Process.{Process}
use Rattle.module_acts.specs.pam_room.specs.State.{Scene}
use Rattle.module_acts.specs.Accounts.{Known}
use Rattle.module_acts.specs.Act.{Act, Acts, scene_at}
use Rattle.mod_env.specs.Env.{puts_all}
use Rattle.mod_env.specs.Puts.{Puts}
use Rattle.mod_env.proofs.setting.put_all.Given as goal

abbrev pub invariant-loop-rest : goal.invariant-loop-rest
invariant-loop-rest l = record {
  told : (conv : ConvState) (vault : VaultState) (clock : ClockState) (process : Process) (act : Act) (known : Known) (code : Code) (end : Scene) →
      Acts (puts_all l.rest act) known (scene_at l.transaction conv vault clock process) code end → Acts (puts_all l.texts act) known (scene_at l.fn.transaction conv vault clock process) code end;
  puts : Puts l.fn.transaction l.transaction;
}

abbrev pub decreases-loop-rest : goal.decreases-loop-rest
decreases-loop-rest l = length l.rest
