use Rattle.std.proofs.Common.{refl}
use Rattle.cmd_generate.proofs.OutputFacts.{generates_all, generates_cut, generates_none, writes_front, writes_none}
use Rattle.cmd_generate.proofs.generating.generate.Goals as goal

pub returns-in-Err : goal.returns-in-Err
returns-in-Err g c = record {
  told = λ delay is told sink. generates_none _ _ _ (c.in-Err.ensures.told delay is told);
  writes = λ sink. writes_none _;
  none_open = c.find.ensures.none_open;
  went = c.in-Err.ensures.went;
  faults = refl;
  sink_tells = refl;
}

pub returns-in-Ok-write_all : goal.returns-in-Ok-write_all
returns-in-Ok-write_all g c = record {
  told = λ delay is told sink.
      generates_all c.in-Ok.finding _ _ _ c.in-Ok-write_all.field-0 _ _ (c.in-Ok.ensures.told delay is told) c.bytes.ensures (c.in-Ok-write_all.ensures.told sink);
  writes = λ sink. writes_front _ _ _ _ (c.in-Ok-write_all.ensures.told sink);
  none_open = c.find.ensures.none_open;
  went = c.in-Ok.ensures.went;
  faults = c.in-Ok-write_all.ensures.no_fault;
  sink_tells = c.write_all.ensures.tells;
}

pub returns : goal.returns
returns g c = record {
  told = λ delay is told sink.
      generates_cut c.in-Ok.finding _ _ _ c.in-Err-write_all.field-0 _ _ (c.in-Ok.ensures.told delay is told) c.bytes.ensures
      (c.in-Err-write_all.ensures.told sink);
  writes = λ sink. writes_front _ _ _ _ (c.in-Err-write_all.ensures.told sink);
  none_open = c.find.ensures.none_open;
  went = c.in-Ok.ensures.went;
  faults = c.in-Err-write_all.ensures.failed;
  sink_tells = c.write_all.ensures.tells;
}
