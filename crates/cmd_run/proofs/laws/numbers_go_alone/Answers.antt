use Rattle.std.proofs.Common.{ap, sym, ◌∙◌}
use Rattle.report_step.specs.pam_library.specs.Slots.{slot_at}
use Rattle.cmd_run.proofs.Beside.{slots_of, tells_steps}
use Rattle.cmd_run.proofs.laws.numbers_go_alone.Goals as goal

pub returns : goal.returns
returns c = record {
  alone = λ setting start bytes ended number slot is. record {
    slot_is = ap (λ slots. slot_at slots number) (sym (slots_of setting start bytes ended))
        ∙ c.places_go_alone.ensures.slot setting.players setting.delay number _ start.slots slot is;
    outcomes_are = c.places_go_alone.ensures.outcomes setting.players setting.delay number _ start.slots slot is;
  };
  steps = tells_steps;
}
