use Rattle.env_list.proofs.Texts.{sets, deletes}
use Rattle.env_list.proofs.environment.EnvList.put.Goals as goal

pub returns-in-Some-clause-ok : goal.returns-in-Some-clause-ok
returns-in-Some-clause-ok c =
    let text = sets c.args.text.now c.in-Some.place c.in-Some.ensures in
    rw (text.2, text.0, text.1) c.set.ensures.ok

pub returns-in-None-clause-ok : goal.returns-in-None-clause-ok
returns-in-None-clause-ok c =
    let text = deletes c.args.text.now c.in-None.ensures in
    rw (text.1, text.0) c.delete.ensures.ok

pub returns-in-None-clause-bad_item : goal.returns-in-None-clause-bad_item
returns-in-None-clause-bad_item c =
    let text = deletes c.args.text.now c.in-None.ensures in
    rw (text.1, text.0) c.delete.ensures.bad_item
