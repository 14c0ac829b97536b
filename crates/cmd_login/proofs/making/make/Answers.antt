use Rattle.std.proofs.Common.{ap, refl}
use Rattle.cmd_run.specs.pam_room.specs.declared.process.Process.{Process}
use Rattle.cmd_run.proofs.RunPartFacts.{went_on, went_quietly}
use Rattle.cmd_login.proofs.LoginCallFacts.{and_right, made_at_time, writes_as}
use Rattle.cmd_login.proofs.making.make.Goals as goal

pub make_now-requires-clause-sound : goal.make_now-requires-clause-sound
make_now-requires-clause-sound g c = rw (ap (λ (p : Process). p.ledger) c.keep_time.ensures.process) c.requires.sound

pub returns : goal.returns
returns g c = record {
  goes = record {
    told = λ timed delay is all sink.
        made_at_time _ _ _ _ _ _ _ (c.keep_time.ensures.sets.told timed (and_right _ _ all)) _ _ _
        (c.make_now.ensures.told _ delay is (rw c.keep_time.ensures.sets.tells all) sink);
    reports = λ sink. writes_as _ _ _ _ _ _ _ (λ answer made. made) (λ fails. fails) _ _ _ (c.make_now.ensures.reports _ sink);
    others = c.make_now.ensures.others;
    went = went_on _ _ _ _ (went_quietly _ _ _ refl refl c.keep_time.ensures.sets.tells (λ number gives. gives) (λ number gives. gives) refl
        (ap (λ (p : Process). p.ledger) c.keep_time.ensures.process) c.requires.sound) c.make_now.ensures.went;
    faults = c.make_now.ensures.faults;
    sink_tells = c.make_now.ensures.sink_tells;
  };
}
