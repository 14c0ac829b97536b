use Rattle.std.proofs.Common.{append-nil, sym, [], ◌∙◌, Some, None, Ok, Err, refl, ap, arith}
use Rattle.record_reader.specs.declared.ending.Stop.TheVariants.{NoMemory}
use Rattle.record_reader.specs.Turns.{has_read_fault}
use Rattle.cmd_run.proofs.ItemRequestFacts.{asks_before, leads_nowhere, leads_on}
use Rattle.cmd_run.proofs.CallReportFacts.{made_broken, made_err_as, made_none, made_ok_as, made_on}
use Rattle.cmd_run.proofs.RunPartFacts.{still_told, went_nowhere, went_on, went_so}
use Rattle.cmd_run.proofs.CallSequenceFacts.{nothing_done}
use Rattle.cmd_run.proofs.ServedItemFacts.{broken_off, broken_on, nothing_served, served_on, served_to}
use Rattle.cmd_run.proofs.StreamBytesFacts.{err_then, err_unwritten, ok_then, ok_unwritten, takes_none, takes_on}
use Rattle.cmd_run.proofs.items.serve_items.Goals as goal

pub returns-in-Err-clause-serves : goal.returns-in-Err-clause-serves
returns-in-Err-clause-serves g c = record {
  source_tells = refl;
  sink_tells = refl;
  told = λ still delay is told source sink. record {
    runs = rw c.requires.first (c.turns_are_a_run.ensures _ (Err NoMemory) _ _ _ _ _ _ _ _ (c.first_turn.ensures.no_memory _ _ _ _));
    served = rw c.requires.first (broken_off _ _ _ _ _ _ _ _ [] _ _ (sym (append-nil _)) (nothing_done _ _ _ _ _ _ refl refl));
  };
  reads = λ source. record {
    runs = rw c.requires.first (c.reading_is_turns.ensures.run (Err NoMemory) _ _ _ _ _ _ _ _ (c.reading_is_turns.ensures.no_memory _ _ _));
    takes = takes_none _;
  };
  writes = λ sink. err_unwritten _ _;
  few = omega (arith, c.requires.first);
  went = went_nowhere _ _ c.requires.sound;
  source_faults = refl;
  sink_faults = refl;
}

pub loop-ending-init : goal.loop-ending-init
loop-ending-init g c = record {
  went = went_nowhere _ _ c.requires.sound;
  sink_tells = refl;
  source_tells = refl;
  told = λ still delay is told source sink. record {
    turns = rw (c.requires.first, c.in-Ok.ensures) (c.first_turn.ensures.none_yet _ _ _ _);
    served = nothing_served _ _ _ _ _ _ _ _ _ c.requires.first (rw c.in-Ok.ensures refl);
  };
  reads = λ source. record {
    turns = rw (c.requires.first, c.in-Ok.ensures) (c.reading_is_turns.ensures.none_yet _ _ _);
    takes = takes_none _;
  };
  writes = λ sink. ok_unwritten _ _;
  few = omega (arith, c.requires.first);
  source_faults = refl;
  sink_faults = refl;
  leads = λ source. rw (c.requires.first, c.in-Ok.ensures) (leads_nowhere _ _ _ _);
  made = λ sink. made_none _ _ _ _ _;
}

pub loop-ending-preserved : goal.loop-ending-preserved
loop-ending-preserved g c =
    let turn = rw c.in-Ok-None.field-0-is at c.in-Ok-None.ensures.told in
    let read = rw (c.in-Ok-None.field-0-is, has_read_fault) at c.in-Ok-None.ensures.source_faults in
    let was = c.loop-ending.invariant in
    record {
      sink_tells = c.serve_next.ensures.sink_tells ∙ was.sink_tells;
      source_tells = c.serve_next.ensures.source_tells ∙ was.source_tells;
      told = λ still delay is told source sink.
          let before = was.told still delay is told source sink in
          let next = rw was.went.players at (turn still delay (was.went.gives delay is) (still_told _ _ _ was.went told) (was.source_tells ∙ source)
          (was.sink_tells ∙ sink)) in
          record {
            turns = c.turns_go_on.ensures _ (Ok None) _ _ _ _ _ _ _ _ _ _ _ _ _ _ before.turns next.turns;
            served = served_on _ _ _ _ _ _ _ _ _ _ _ _ _ _ _ _ before.served next.served;
          };
      reads = λ source.
          let next = (rw c.in-Ok-None.field-0-is at c.in-Ok-None.ensures.reads) (was.source_tells ∙ source) in
          record {
            turns = c.reading_is_turns.ensures.on (Ok None) _ _ _ _ _ _ _ _ _ _ _ _ _ _ (was.reads source).turns next.turns;
            takes = takes_on _ _ _ _ (was.reads source).takes next.takes;
          };
      writes = λ sink. ok_then _ c.in-Ok-None.field-0 _ _ _ _ (was.writes sink) (c.in-Ok-None.ensures.writes (was.sink_tells ∙ sink));
      few = c.serve_next.ensures.few;
      source_faults = read ∙ was.source_faults;
      sink_faults = c.in-Ok-None.ensures.sink_faults ∙ was.sink_faults;
      made = λ sink. made_on _ _ _ _ _ _ _ _ _ _ (was.made sink) (made_ok_as _ _ c.in-Ok-None.field-0 _ _ _ _ _
          (rw was.went.players at (c.in-Ok-None.ensures.made (was.sink_tells ∙ sink))));
      leads = λ source. leads_on _ _ _ _ _ _ _ _ (was.leads source) (c.serve_next.ensures.leads (c.in-Ok-None.is ∙ ap Ok c.in-Ok-None.field-0-is)
          (was.source_tells ∙ source));
      went = went_on _ _ _ _ was.went (went_so _ _ (λ number status has source. asks_before _ _ _ _ _ _ (was.leads source) number status
          (has (was.source_tells ∙ source))) _ _ c.serve_next.ensures.went);
    }

pub returns-in-Ok-Some-clause-serves : goal.returns-in-Ok-Some-clause-serves
returns-in-Ok-Some-clause-serves g c =
    let was = c.loop-ending.invariant in
    record {
      source_tells = c.serve_next.ensures.source_tells ∙ was.source_tells;
      sink_tells = c.serve_next.ensures.sink_tells ∙ was.sink_tells;
      told = λ still delay is told source sink.
          let turn = rw c.in-Ok-Some.field-0-is at c.in-Ok-Some.ensures.told in
          let before = was.told still delay is told source sink in
          let next = rw was.went.players at (turn still delay (was.went.gives delay is) (still_told _ _ _ was.went told) (was.source_tells ∙ source)
          (was.sink_tells ∙ sink)) in
          record {
            runs = c.turns_are_a_run.ensures _ (Ok c.in-Ok-Some.ending) _ _ _ _ _ _ _ _
                (c.turns_go_on.ensures _ (Ok (Some c.in-Ok-Some.ending)) _ _ _ _ _ _ _ _ _ _ _ _ _ _ before.turns next.turns);
            served = served_to _ _ _ _ _ _ _ _ _ _ _ _ _ _ _ before.served next.served;
          };
      reads = λ source.
          let next = (rw c.in-Ok-Some.field-0-is at c.in-Ok-Some.ensures.reads) (was.source_tells ∙ source) in
          record {
            runs = c.reading_is_turns.ensures.run (Ok c.in-Ok-Some.ending) _ _ _ _ _ _ _ _
                (c.reading_is_turns.ensures.on (Ok (Some c.in-Ok-Some.ending)) _ _ _ _ _ _ _ _ _ _ _ _ _ _ (was.reads source).turns next.turns);
            takes = takes_on _ _ _ _ (was.reads source).takes next.takes;
          };
      writes = λ sink. ok_then _ c.in-Ok-Some.field-0 _ _ _ _ (was.writes sink) (c.in-Ok-Some.ensures.writes (was.sink_tells ∙ sink));
      few = c.serve_next.ensures.few;
      went = went_on _ _ _ _ was.went (went_so _ _ (λ number status has source. asks_before _ _ _ _ _ _ (was.leads source) number status
          (has (was.source_tells ∙ source))) _ _ c.serve_next.ensures.went);
      source_faults = rw was.source_faults at (rw c.in-Ok-Some.field-0-is at c.in-Ok-Some.ensures.source_faults);
      sink_faults = c.in-Ok-Some.ensures.sink_faults ∙ was.sink_faults;
    }

pub returns-in-Err-serve_next-clause-serves : goal.returns-in-Err-serve_next-clause-serves
returns-in-Err-serve_next-clause-serves g c =
    let was = c.loop-ending.invariant in
    record {
      source_tells = c.serve_next.ensures.source_tells ∙ was.source_tells;
      sink_tells = c.serve_next.ensures.sink_tells ∙ was.sink_tells;
      told = λ still delay is told source sink.
          let before = was.told still delay is told source sink in
          let next = rw was.went.players at (c.in-Err-serve_next.ensures.told still delay (was.went.gives delay is) (still_told _ _ _ was.went told)
          (was.source_tells ∙ source) (was.sink_tells ∙ sink)) in
          record {
            runs = c.turns_are_a_run.ensures _ (Err c.in-Err-serve_next.stop) _ _ _ _ _ _ _ _
                (c.turns_go_on.ensures _ (Err c.in-Err-serve_next.stop) _ _ _ _ _ _ _ _ _ _ _ _ _ _ before.turns next.turns);
            served = broken_on _ _ _ _ _ _ _ _ _ _ _ _ _ _ _ before.served next.served;
          };
      reads = λ source.
          let next = c.in-Err-serve_next.ensures.reads (was.source_tells ∙ source) in
          record {
            runs = c.reading_is_turns.ensures.run (Err c.in-Err-serve_next.stop) _ _ _ _ _ _ _ _
                (c.reading_is_turns.ensures.on (Err c.in-Err-serve_next.stop) _ _ _ _ _ _ _ _ _ _ _ _ _ _ (was.reads source).turns next.turns);
            takes = takes_on _ _ _ _ (was.reads source).takes next.takes;
          };
      writes = λ sink. err_then _ c.in-Err-serve_next.stop _ _ _ (was.writes sink) (c.in-Err-serve_next.ensures.writes (was.sink_tells ∙ sink));
      few = c.serve_next.ensures.few;
      went = went_on _ _ _ _ was.went (went_so _ _ (λ number status has source. asks_before _ _ _ _ _ _ (was.leads source) number status
          (has (was.source_tells ∙ source))) _ _ c.serve_next.ensures.went);
      source_faults = c.in-Err-serve_next.ensures.source_faults ∙ was.source_faults;
      sink_faults = rw was.sink_faults at c.in-Err-serve_next.ensures.sink_faults;
    }

pub returns-in-Err-clause-made : goal.returns-in-Err-clause-made
returns-in-Err-clause-made g c = λ sink. made_broken _ _ _ _ _ _

pub returns-in-Ok-Some-clause-made : goal.returns-in-Ok-Some-clause-made
returns-in-Ok-Some-clause-made g c = λ sink.
    let was = c.loop-ending.invariant in
    made_on _ _ _ _ _ _ _ _ _ _ (was.made sink) (made_ok_as _ _ c.in-Ok-Some.field-0 _ _ _ _ _
    (rw was.went.players at (c.in-Ok-Some.ensures.made (was.sink_tells ∙ sink))))

pub returns-in-Err-serve_next-clause-made : goal.returns-in-Err-serve_next-clause-made
returns-in-Err-serve_next-clause-made g c = λ sink.
    let was = c.loop-ending.invariant in
    made_on _ _ _ _ _ _ _ _ _ _ (was.made sink) (made_err_as _ _ c.in-Err-serve_next.stop _ _ _ _
    (rw was.went.players at (c.in-Err-serve_next.ensures.made (was.sink_tells ∙ sink))))
