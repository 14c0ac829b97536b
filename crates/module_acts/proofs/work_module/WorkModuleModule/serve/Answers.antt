use Rattle.pam_room.specs.Plain.{plain_call}
use Rattle.module_acts.specs.Tells.{conv_of, vault_of}
use Rattle.module_acts.proofs.DecisionFacts.{decided}
use Rattle.module_acts.proofs.work_module.WorkModuleModule.serve.Goals as goal

pub returns-in-Some-clause-told : goal.returns-in-Some-clause-told
returns-in-Some-clause-told g c = λ told.
    c.plays_so.ensures (plain_call c.args.call.now) _ _ c.in-Some.code (rw (← c.in-Some.ensures) (c.act_steps.ensures.answers _ _ _))

pub returns-in-None-clause-told : goal.returns-in-None-clause-told
returns-in-None-clause-told g c = λ told.
    let vault = c.args.vault.now in
    let clock = c.args._clock.now in
    let vault_tells = (goal.Vault-dyn g vault).vault_tells vault.1 in
    let clock_tells = (goal.Clock-dyn g clock).clock_tells clock.1 in
    decided _ (plain_call c.args.call.now) _ _ _ _ c.code_or_conv_err.result c.in-None.ensures (c.plays_so.ensures _ _ _)
    (c.code_or_conv_err.ensures.finished _ _ _ (c.work-answer.ensures.told (conv_of _ vault_tells clock_tells told) (vault_of _ vault_tells clock_tells told) _ c.requires.moment))

pub returns-in-None-clause-stays : goal.returns-in-None-clause-stays
returns-in-None-clause-stays g c = c.work-answer.ensures.sets.stays _
