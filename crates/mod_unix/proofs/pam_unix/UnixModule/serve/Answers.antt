use Rattle.std.proofs.Common.{Ok, ap}
use Rattle.pam_base.specs.declared.code.Code.TheVariants.{Success}
use Rattle.pam_base.specs.declared.call.Func.TheVariants.{Authenticate, SetCred, AcctMgmt, OpenSession, CloseSession, ChAuthTok}
use Rattle.pam_room.specs.Plain.{plain_call, plain_process}
use Rattle.mod_unix.specs.Account.{checks_account}
use Rattle.mod_unix.specs.Authenticate.{authenticates}
use Rattle.mod_unix.specs.Change.{changes_token}
use Rattle.mod_unix.specs.Unix.{unix_act}
use Rattle.mod_unix.proofs.SetcredDataFacts.{keeping_sets, keeping_stays}
use Rattle.module_acts.specs.Tells.{clock_of, conv_of, vault_of}
use Rattle.mod_unix.proofs.ModuleFunctionFacts.{by_this, set_cred}
use Rattle.mod_unix.proofs.pam_unix.UnixModule.serve.Goals as goal

pub returns-in-Authenticate-clause-told : goal.returns-in-Authenticate-clause-told
returns-in-Authenticate-clause-told g c = λ told.
    let vault = c.args.vault.now in
    let clock = c.args.clock.now in
    let vault_tells = (goal.Vault-dyn g vault).vault_tells vault.1 in
    let clock_tells = (goal.Clock-dyn g clock).clock_tells clock.1 in
    let call = plain_call c.args.call.now in
    c.act_steps.ensures.playing unix_act call _ _ c.keep_for_setcred.result
    (by_this _ Authenticate call c.keep_for_setcred.result _ _ c.in-Authenticate.is
    (c.keep_for_setcred.ensures.told (authenticates call) _ _ _ _ (c.authenticate-answer.ensures.told (conv_of _ vault_tells clock_tells told) (vault_of _ vault_tells clock_tells told) _)))

pub returns-in-Authenticate-clause-stays : goal.returns-in-Authenticate-clause-stays
returns-in-Authenticate-clause-stays g c =
    keeping_stays c.args.transaction.now c.authenticate-answer.new.transaction _ _ _ c.authenticate-answer.ensures.talks c.keep_for_setcred.ensures.others c.keep_for_setcred.ensures.data_handle (ap plain_process c.keep_for_setcred.ensures.process)

pub returns-in-Authenticate-clause-sets : goal.returns-in-Authenticate-clause-sets
returns-in-Authenticate-clause-sets g c =
    keeping_sets c.args.transaction.now c.authenticate-answer.new.transaction _ (plain_process c.args.process.now) (plain_process c.keep_for_setcred.new.process) c.authenticate-answer.ensures.talks c.keep_for_setcred.ensures.others c.keep_for_setcred.ensures.data_handle (ap plain_process c.keep_for_setcred.ensures.process) c.keep_for_setcred.ensures.sets

pub returns-in-SetCred-clause-told : goal.returns-in-SetCred-clause-told
returns-in-SetCred-clause-told g c = λ told.
    let call = plain_call c.args.call.now in
    c.act_steps.ensures.playing unix_act call _ _ (Ok c.kept_code.result)
    (by_this _ SetCred call (Ok c.kept_code.result) _ _ c.in-SetCred.is (set_cred c.act_steps.ensures.answers c.acting.ensures.data call _ c.kept_code.result c.kept_code.ensures))

pub returns-in-AcctMgmt-clause-told : goal.returns-in-AcctMgmt-clause-told
returns-in-AcctMgmt-clause-told g c = λ told.
    let vault = c.args.vault.now in
    let clock = c.args.clock.now in
    let vault_tells = (goal.Vault-dyn g vault).vault_tells vault.1 in
    let clock_tells = (goal.Clock-dyn g clock).clock_tells clock.1 in
    let call = plain_call c.args.call.now in
    c.act_steps.ensures.playing unix_act call _ _ c.code_or_conv_err.result
    (by_this _ AcctMgmt call c.code_or_conv_err.result _ _ c.in-AcctMgmt.is
    (c.code_or_conv_err.ensures.told checks_account _ _ (c.check_account.ensures.told (conv_of _ vault_tells clock_tells told) (vault_of _ vault_tells clock_tells told) _ c.requires.moment)))

pub returns-in-ChAuthTok-clause-told : goal.returns-in-ChAuthTok-clause-told
returns-in-ChAuthTok-clause-told g c = λ told.
    let vault = c.args.vault.now in
    let clock = c.args.clock.now in
    let vault_tells = (goal.Vault-dyn g vault).vault_tells vault.1 in
    let clock_tells = (goal.Clock-dyn g clock).clock_tells clock.1 in
    let call = plain_call c.args.call.now in
    let ticks = clock_of ((goal.Conv-dyn g c.args.conv.now).conv_tells c.args.conv.now.1) vault_tells clock_tells told in
    c.act_steps.ensures.playing unix_act call _ _ c.code_or_conv_err-in-ChAuthTok.result
    (by_this _ ChAuthTok call c.code_or_conv_err-in-ChAuthTok.result _ _ c.in-ChAuthTok.is
    (c.code_or_conv_err-in-ChAuthTok.ensures.told (changes_token call) _ _ (c.change_token.ensures.told (conv_of _ vault_tells clock_tells told) (vault_of _ vault_tells clock_tells told) ticks c.requires.moment)))

pub returns-in-OpenSession-clause-told : goal.returns-in-OpenSession-clause-told
returns-in-OpenSession-clause-told g c = λ told.
    let call = plain_call c.args.call.now in
    c.act_steps.ensures.playing unix_act call _ _ (Ok Success) (by_this _ OpenSession call (Ok Success) _ _ c.in-OpenSession.is (c.act_steps.ensures.answers Success _ _))

pub returns-in-CloseSession-clause-told : goal.returns-in-CloseSession-clause-told
returns-in-CloseSession-clause-told g c = λ told.
    let call = plain_call c.args.call.now in
    c.act_steps.ensures.playing unix_act call _ _ (Ok Success) (by_this _ CloseSession call (Ok Success) _ _ c.in-CloseSession.is (c.act_steps.ensures.answers Success _ _))
