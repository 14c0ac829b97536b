use Rattle.std.proofs.Common.{[], Some, None, Ok, Err, ap, ◌∙◌}
use Rattle.cmd_run.proofs.ItemRequestFacts.{item_asks, item_asks_first, item_first, item_leads, rest_asks, rest_asks_first, rest_is}
use Rattle.cmd_run.proofs.ServedItemFacts.{broken_off, none_served, one_served, refused_served}
use Rattle.cmd_run.proofs.RunPartFacts.{went_nowhere, went_so}
use Rattle.cmd_run.proofs.CallSequenceFacts.{proceeds_so}
use Rattle.cmd_run.proofs.CallReportFacts.{made_err_as, made_none, made_ok_as}
use Rattle.cmd_run.proofs.StreamBytesFacts.{err_as, ok_as, ok_unwritten, takes}
use Rattle.cmd_run.proofs.items.serve_next.Goals as goal

pub returns-in-Err-clause-told : goal.returns-in-Err-clause-told
returns-in-Err-clause-told g c = λ still delay is told source sink.
    record {
      turns = c.nothing_found_is_a_turn.ensures.fault _ _ _ _ _ _ _ _ _ c.in-Err.ensures.found (c.in-Err.ensures.told source);
      served = none_served _ _ _ _ _ _ _ _;
    }

pub returns-in-Ok-End-clause-told : goal.returns-in-Ok-End-clause-told
returns-in-Ok-End-clause-told g c = λ still delay is told source sink.
    let found = rw c.in-Ok-End.field-0-is at c.in-Ok-End.ensures.found in
    let finds = rw c.in-Ok-End.field-0-is at c.in-Ok-End.ensures.told in
    record {
      turns = c.nothing_found_is_a_turn.ensures.end _ _ _ _ _ _ _ _ found (finds source);
      served = none_served _ _ _ _ _ _ _ _;
    }

pub returns-in-Err-serve-clause-told : goal.returns-in-Err-serve-clause-told
returns-in-Err-serve-clause-told g c = λ still delay is told source sink.
    let found = rw c.in-Ok-Item.field-0-is at c.in-Ok-Item.ensures.found in
    let finds = rw c.in-Ok-Item.field-0-is at c.in-Ok-Item.ensures.told in
    let served = rw c.bytes.ensures at c.in-Err-serve.ensures.told in
    let went = rw c.bytes.ensures at c.serve.ensures.went.proceeds in
    let written = c.in-Err-serve.ensures.writes sink in
    record {
      turns = c.found_item_is_a_turn.ensures.item _ _ _ _ _ _ _ _ _ _ _ _ (Err c.in-Err-serve.stop) found (finds source) (served still delay is told sink);
      served = broken_off _ _ _ _ _ _ _ _ written.text _ _ written.written
          (proceeds_so _ _ (λ number status asks. item_asks_first _ _ g.P.Protocol.asked _ _ _ _ _ _ _ _ found (finds source) number status asks) _ _
          _ _ _ went);
    }

pub returns-in-Ok-Some-clause-told : goal.returns-in-Ok-Some-clause-told
returns-in-Ok-Some-clause-told g c = λ still delay is told source sink.
    let found = rw c.in-Ok-Item.field-0-is at c.in-Ok-Item.ensures.found in
    let finds = rw c.in-Ok-Item.field-0-is at c.in-Ok-Item.ensures.told in
    let served = rw (c.bytes.ensures, c.in-Ok-Some.field-0-is) at c.in-Ok-Some.ensures.told in
    record {
      turns = rw c.in-Ok-Some.kind-is (c.found_item_is_a_turn.ensures.item _ _ _ _ _ _ _ _ _ _ _ _ (Ok (Some c.in-Ok-Some.kind)) found (finds source)
          (served still delay is told sink));
      served = refused_served _ _ _ _ _ c.in-Ok-Some.kind _ _ _ _ _ _ _ (served still delay is told sink);
    }

pub returns-in-Ok-None-clause-told : goal.returns-in-Ok-None-clause-told
returns-in-Ok-None-clause-told g c = λ still delay is told source sink.
    let found = rw c.in-Ok-Item.field-0-is at c.in-Ok-Item.ensures.found in
    let finds = rw c.in-Ok-Item.field-0-is at c.in-Ok-Item.ensures.told in
    let served = rw (c.bytes.ensures, c.in-Ok-None.field-0-is) at c.in-Ok-None.ensures.told in
    let moves = rw c.bytes.ensures at (c.serve.ensures.moves (c.in-Ok-None.is ∙ ap Ok c.in-Ok-None.field-0-is)) in
    record {
      turns = rw c.skip.ensures (c.found_item_is_a_turn.ensures.item _ _ _ _ _ _ _ _ _ _ _ _ (Ok None) found (finds source) (served still delay is told sink));
      served = rw c.skip.ensures (one_served _ _ _ _ _ _ _ _ _ _ _ _ _ (item_first _ _ g.P.Protocol.asked _ _ _ _ _ _ _ _ found (finds source))
          (served still delay is told sink) moves);
    }

pub returns-in-Err-serve-2-clause-told : goal.returns-in-Err-serve-2-clause-told
returns-in-Err-serve-2-clause-told g c = λ still delay is told source sink.
    let found = rw c.in-Ok-Rest.field-0-is at c.in-Ok-Rest.ensures.found in
    let finds = rw c.in-Ok-Rest.field-0-is at c.in-Ok-Rest.ensures.told in
    let served = rw c.bytes-in-Ok-Rest.ensures at c.in-Err-serve-2.ensures.told in
    let went = rw c.bytes-in-Ok-Rest.ensures at c.serve-in-Ok-Rest.ensures.went.proceeds in
    let written = c.in-Err-serve-2.ensures.writes sink in
    record {
      turns = c.found_item_is_a_turn.ensures.rest _ _ _ _ _ _ _ _ _ _ (Err c.in-Err-serve-2.stop) found (finds source) (served still delay is told sink);
      served = broken_off _ _ _ _ _ _ _ _ written.text _ _ written.written
          (proceeds_so _ _ (λ number status asks. rest_asks_first _ _ _ _ _ _ _ c.does.ensures c.keeps.ensures.reads _ _ _ _ _ (finds source) number status
          asks) _ _ _ _ _ went);
    }

pub returns-in-Ok-Some-serve-clause-told : goal.returns-in-Ok-Some-serve-clause-told
returns-in-Ok-Some-serve-clause-told g c = λ still delay is told source sink.
    let found = rw c.in-Ok-Rest.field-0-is at c.in-Ok-Rest.ensures.found in
    let finds = rw c.in-Ok-Rest.field-0-is at c.in-Ok-Rest.ensures.told in
    let served = rw (c.bytes-in-Ok-Rest.ensures, c.in-Ok-Some-serve.field-0-is) at c.in-Ok-Some-serve.ensures.told in
    record {
      turns = rw c.in-Ok-Some-serve.kind-is (c.found_item_is_a_turn.ensures.rest _ _ _ _ _ _ _ _ _ _ (Ok (Some c.in-Ok-Some-serve.kind)) found (finds source)
          (served still delay is told sink));
      served = refused_served _ _ _ _ _ c.in-Ok-Some-serve.kind _ _ _ _ _ _ _ (served still delay is told sink);
    }

pub returns-in-Ok-None-serve-clause-told : goal.returns-in-Ok-None-serve-clause-told
returns-in-Ok-None-serve-clause-told g c = λ still delay is told source sink.
    let found = rw c.in-Ok-Rest.field-0-is at c.in-Ok-Rest.ensures.found in
    let finds = rw c.in-Ok-Rest.field-0-is at c.in-Ok-Rest.ensures.told in
    let served = rw (c.bytes-in-Ok-Rest.ensures, c.in-Ok-None-serve.field-0-is) at c.in-Ok-None-serve.ensures.told in
    let moves = rw c.bytes-in-Ok-Rest.ensures at (c.serve-in-Ok-Rest.ensures.moves (c.in-Ok-None-serve.is ∙ ap Ok c.in-Ok-None-serve.field-0-is)) in
    let accepted = rw c.bytes-in-Ok-Rest.ensures at (c.serve-in-Ok-Rest.ensures.accepted (c.in-Ok-None-serve.is ∙ ap Ok c.in-Ok-None-serve.field-0-is)) in
    record {
      turns = c.found_item_is_a_turn.ensures.rest _ _ _ _ _ _ _ _ _ _ (Ok None) found (finds source) (served still delay is told sink);
      served = (
        [],
        one_served _ _ _ _ _ _ _ _ _ _ _ _ [] (rest_is _ _ _ _ _ _ _ c.does.ensures c.keeps.ensures.reads _ _ _ _ _ (finds source) accepted.0
            accepted.1) (served still delay is told sink) moves,
      );
    }

pub returns-in-Err-clause-went : goal.returns-in-Err-clause-went
returns-in-Err-clause-went g c = went_nowhere _ _ c.requires.sound

pub returns-in-Ok-End-clause-went : goal.returns-in-Ok-End-clause-went
returns-in-Ok-End-clause-went g c = went_nowhere _ _ c.requires.sound

pub returns-in-Err-serve-clause-went : goal.returns-in-Err-serve-clause-went
returns-in-Err-serve-clause-went g c =
    let found = rw c.in-Ok-Item.field-0-is at c.in-Ok-Item.ensures.found in
    let finds = rw c.in-Ok-Item.field-0-is at c.in-Ok-Item.ensures.told in
    let served = rw c.bytes.ensures at c.serve.ensures.went in
    went_so _ _ (λ number status asks source. item_asks _ _ _ _ _ _ _ _ _ _ _ found (finds source) c.find_item.ensures.bytes number status asks) _ _ served

pub returns-in-Ok-Some-clause-went : goal.returns-in-Ok-Some-clause-went
returns-in-Ok-Some-clause-went g c =
    let found = rw c.in-Ok-Item.field-0-is at c.in-Ok-Item.ensures.found in
    let finds = rw c.in-Ok-Item.field-0-is at c.in-Ok-Item.ensures.told in
    let served = rw c.bytes.ensures at c.serve.ensures.went in
    went_so _ _ (λ number status asks source. item_asks _ _ _ _ _ _ _ _ _ _ _ found (finds source) c.find_item.ensures.bytes number status asks) _ _ served

pub returns-in-Ok-None-clause-went : goal.returns-in-Ok-None-clause-went
returns-in-Ok-None-clause-went g c =
    let found = rw c.in-Ok-Item.field-0-is at c.in-Ok-Item.ensures.found in
    let finds = rw c.in-Ok-Item.field-0-is at c.in-Ok-Item.ensures.told in
    let served = rw c.bytes.ensures at c.serve.ensures.went in
    went_so _ _ (λ number status asks source. item_asks _ _ _ _ _ _ _ _ _ _ _ found (finds source) c.find_item.ensures.bytes number status asks) _ _ served

pub returns-in-Err-serve-2-clause-went : goal.returns-in-Err-serve-2-clause-went
returns-in-Err-serve-2-clause-went g c =
    let finds = rw c.in-Ok-Rest.field-0-is at c.in-Ok-Rest.ensures.told in
    let served = rw c.bytes-in-Ok-Rest.ensures at c.serve-in-Ok-Rest.ensures.went in
    went_so _ _ (λ number status asks source. rest_asks _ _ _ _ _ _ _ c.does.ensures c.keeps.ensures.reads _ _ _ _ _ (finds source) c.find_item.ensures.bytes
    number status asks) _ _ served

pub returns-in-Ok-Some-serve-clause-went : goal.returns-in-Ok-Some-serve-clause-went
returns-in-Ok-Some-serve-clause-went g c =
    let finds = rw c.in-Ok-Rest.field-0-is at c.in-Ok-Rest.ensures.told in
    let served = rw c.bytes-in-Ok-Rest.ensures at c.serve-in-Ok-Rest.ensures.went in
    went_so _ _ (λ number status asks source. rest_asks _ _ _ _ _ _ _ c.does.ensures c.keeps.ensures.reads _ _ _ _ _ (finds source) c.find_item.ensures.bytes
    number status asks) _ _ served

pub returns-in-Ok-None-serve-clause-went : goal.returns-in-Ok-None-serve-clause-went
returns-in-Ok-None-serve-clause-went g c =
    let finds = rw c.in-Ok-Rest.field-0-is at c.in-Ok-Rest.ensures.told in
    let served = rw c.bytes-in-Ok-Rest.ensures at c.serve-in-Ok-Rest.ensures.went in
    went_so _ _ (λ number status asks source. rest_asks _ _ _ _ _ _ _ c.does.ensures c.keeps.ensures.reads _ _ _ _ _ (finds source) c.find_item.ensures.bytes
    number status asks) _ _ served

pub returns-in-Ok-None-clause-leads : goal.returns-in-Ok-None-clause-leads
returns-in-Ok-None-clause-leads g c = λ none source.
    let found = rw c.in-Ok-Item.field-0-is at c.in-Ok-Item.ensures.found in
    let finds = rw c.in-Ok-Item.field-0-is at c.in-Ok-Item.ensures.told in
    let accepted = rw c.bytes.ensures at (c.serve.ensures.accepted (c.in-Ok-None.is ∙ ap Ok c.in-Ok-None.field-0-is)) in
    rw c.skip.ensures (item_leads _ _ _ _ _ _ _ _ _ _ _ found (finds source) c.find_item.ensures.bytes accepted)

pub returns-in-Err-clause-reads : goal.returns-in-Err-clause-reads
returns-in-Err-clause-reads g c = λ source.
    record {
      turns = c.reading_is_turns.ensures.fault _ _ _ _ _ _ _ _ c.in-Err.ensures.found (c.in-Err.ensures.told source);
      takes = takes _ _ _ _ _ _ _ _ (c.in-Err.ensures.told source) c.find_item.ensures.bytes;
    }

pub returns-in-Ok-End-clause-reads : goal.returns-in-Ok-End-clause-reads
returns-in-Ok-End-clause-reads g c = λ source.
    let found = rw c.in-Ok-End.field-0-is at c.in-Ok-End.ensures.found in
    let finds = rw c.in-Ok-End.field-0-is at c.in-Ok-End.ensures.told in
    record {
      turns = c.reading_is_turns.ensures.end _ _ _ _ _ _ _ found (finds source);
      takes = takes _ _ _ _ _ _ _ _ (finds source) c.find_item.ensures.bytes;
    }

pub returns-in-Err-serve-clause-reads : goal.returns-in-Err-serve-clause-reads
returns-in-Err-serve-clause-reads g c = λ source.
    let found = rw c.in-Ok-Item.field-0-is at c.in-Ok-Item.ensures.found in
    let finds = rw c.in-Ok-Item.field-0-is at c.in-Ok-Item.ensures.told in
    let served = rw c.bytes.ensures at c.in-Err-serve.ensures.reads in
    record {
      turns = c.reading_is_turns.ensures.item _ _ _ _ _ _ _ _ _ _ _ (Err c.in-Err-serve.stop) found (finds source) served;
      takes = takes _ _ _ _ _ _ _ _ (finds source) c.find_item.ensures.bytes;
    }

pub returns-in-Ok-Some-clause-reads : goal.returns-in-Ok-Some-clause-reads
returns-in-Ok-Some-clause-reads g c = λ source.
    let found = rw c.in-Ok-Item.field-0-is at c.in-Ok-Item.ensures.found in
    let finds = rw c.in-Ok-Item.field-0-is at c.in-Ok-Item.ensures.told in
    let served = rw (c.bytes.ensures, c.in-Ok-Some.field-0-is) at c.in-Ok-Some.ensures.reads in
    record {
      turns = rw c.in-Ok-Some.kind-is (c.reading_is_turns.ensures.item _ _ _ _ _ _ _ _ _ _ _ (Ok (Some c.in-Ok-Some.kind)) found (finds source) served);
      takes = takes _ _ _ _ _ _ _ _ (finds source) c.find_item.ensures.bytes;
    }

pub returns-in-Ok-None-clause-reads : goal.returns-in-Ok-None-clause-reads
returns-in-Ok-None-clause-reads g c = λ source.
    let found = rw c.in-Ok-Item.field-0-is at c.in-Ok-Item.ensures.found in
    let finds = rw c.in-Ok-Item.field-0-is at c.in-Ok-Item.ensures.told in
    let served = rw (c.bytes.ensures, c.in-Ok-None.field-0-is) at c.in-Ok-None.ensures.reads in
    record {
      turns = rw c.skip.ensures (c.reading_is_turns.ensures.item _ _ _ _ _ _ _ _ _ _ _ (Ok None) found (finds source) served);
      takes = takes _ _ _ _ _ _ _ _ (finds source) c.find_item.ensures.bytes;
    }

pub returns-in-Err-serve-2-clause-reads : goal.returns-in-Err-serve-2-clause-reads
returns-in-Err-serve-2-clause-reads g c = λ source.
    let found = rw c.in-Ok-Rest.field-0-is at c.in-Ok-Rest.ensures.found in
    let finds = rw c.in-Ok-Rest.field-0-is at c.in-Ok-Rest.ensures.told in
    let served = rw c.bytes-in-Ok-Rest.ensures at c.in-Err-serve-2.ensures.reads in
    record {
      turns = c.reading_is_turns.ensures.rest _ _ _ _ _ _ _ _ _ (Err c.in-Err-serve-2.stop) found (finds source) served;
      takes = takes _ _ _ _ _ _ _ _ (finds source) c.find_item.ensures.bytes;
    }

pub returns-in-Ok-Some-serve-clause-reads : goal.returns-in-Ok-Some-serve-clause-reads
returns-in-Ok-Some-serve-clause-reads g c = λ source.
    let found = rw c.in-Ok-Rest.field-0-is at c.in-Ok-Rest.ensures.found in
    let finds = rw c.in-Ok-Rest.field-0-is at c.in-Ok-Rest.ensures.told in
    let served = rw (c.bytes-in-Ok-Rest.ensures, c.in-Ok-Some-serve.field-0-is) at c.in-Ok-Some-serve.ensures.reads in
    record {
      turns = rw c.in-Ok-Some-serve.kind-is (c.reading_is_turns.ensures.rest _ _ _ _ _ _ _ _ _ (Ok (Some c.in-Ok-Some-serve.kind)) found (finds source) served);
      takes = takes _ _ _ _ _ _ _ _ (finds source) c.find_item.ensures.bytes;
    }

pub returns-in-Ok-None-serve-clause-reads : goal.returns-in-Ok-None-serve-clause-reads
returns-in-Ok-None-serve-clause-reads g c = λ source.
    let found = rw c.in-Ok-Rest.field-0-is at c.in-Ok-Rest.ensures.found in
    let finds = rw c.in-Ok-Rest.field-0-is at c.in-Ok-Rest.ensures.told in
    let served = rw (c.bytes-in-Ok-Rest.ensures, c.in-Ok-None-serve.field-0-is) at c.in-Ok-None-serve.ensures.reads in
    record {
      turns = c.reading_is_turns.ensures.rest _ _ _ _ _ _ _ _ _ (Ok None) found (finds source) served;
      takes = takes _ _ _ _ _ _ _ _ (finds source) c.find_item.ensures.bytes;
    }

pub returns-in-Err-clause-writes : goal.returns-in-Err-clause-writes
returns-in-Err-clause-writes g c = λ sink. ok_unwritten _ _

pub returns-in-Ok-End-clause-writes : goal.returns-in-Ok-End-clause-writes
returns-in-Ok-End-clause-writes g c = λ sink. ok_unwritten _ _

pub returns-in-Err-serve-clause-writes : goal.returns-in-Err-serve-clause-writes
returns-in-Err-serve-clause-writes g c = λ sink. err_as c.in-Err-serve.stop _ _ (c.in-Err-serve.ensures.writes sink)

pub returns-in-Err-serve-2-clause-writes : goal.returns-in-Err-serve-2-clause-writes
returns-in-Err-serve-2-clause-writes g c = λ sink. err_as c.in-Err-serve-2.stop _ _ (c.in-Err-serve-2.ensures.writes sink)

pub returns-in-Ok-Some-clause-writes : goal.returns-in-Ok-Some-clause-writes
returns-in-Ok-Some-clause-writes g c = λ sink. ok_as c.in-Ok-Some.field-0 _ _ _ (c.in-Ok-Some.ensures.writes sink)

pub returns-in-Ok-Some-serve-clause-writes : goal.returns-in-Ok-Some-serve-clause-writes
returns-in-Ok-Some-serve-clause-writes g c = λ sink. ok_as c.in-Ok-Some-serve.field-0 _ _ _ (c.in-Ok-Some-serve.ensures.writes sink)

pub returns-in-Ok-None-clause-writes : goal.returns-in-Ok-None-clause-writes
returns-in-Ok-None-clause-writes g c = λ sink. ok_as c.in-Ok-None.field-0 _ _ _ (c.in-Ok-None.ensures.writes sink)

pub returns-in-Ok-None-serve-clause-writes : goal.returns-in-Ok-None-serve-clause-writes
returns-in-Ok-None-serve-clause-writes g c = λ sink. ok_as c.in-Ok-None-serve.field-0 _ _ _ (c.in-Ok-None-serve.ensures.writes sink)

pub returns-in-Err-clause-made : goal.returns-in-Err-clause-made
returns-in-Err-clause-made g c = λ sink. made_none _ _ _ _ _

pub returns-in-Ok-End-clause-made : goal.returns-in-Ok-End-clause-made
returns-in-Ok-End-clause-made g c = λ sink. made_none _ _ _ _ _

pub returns-in-Err-serve-clause-made : goal.returns-in-Err-serve-clause-made
returns-in-Err-serve-clause-made g c = λ sink. made_err_as _ _ c.in-Err-serve.stop _ _ _ _ (c.in-Err-serve.ensures.made sink)

pub returns-in-Err-serve-2-clause-made : goal.returns-in-Err-serve-2-clause-made
returns-in-Err-serve-2-clause-made g c = λ sink. made_err_as _ _ c.in-Err-serve-2.stop _ _ _ _ (c.in-Err-serve-2.ensures.made sink)

pub returns-in-Ok-Some-clause-made : goal.returns-in-Ok-Some-clause-made
returns-in-Ok-Some-clause-made g c = λ sink. made_ok_as _ _ c.in-Ok-Some.field-0 _ _ _ _ _ (c.in-Ok-Some.ensures.made sink)

pub returns-in-Ok-Some-serve-clause-made : goal.returns-in-Ok-Some-serve-clause-made
returns-in-Ok-Some-serve-clause-made g c = λ sink. made_ok_as _ _ c.in-Ok-Some-serve.field-0 _ _ _ _ _ (c.in-Ok-Some-serve.ensures.made sink)

pub returns-in-Ok-None-clause-made : goal.returns-in-Ok-None-clause-made
returns-in-Ok-None-clause-made g c = λ sink. made_ok_as _ _ c.in-Ok-None.field-0 _ _ _ _ _ (c.in-Ok-None.ensures.made sink)

pub returns-in-Ok-None-serve-clause-made : goal.returns-in-Ok-None-serve-clause-made
returns-in-Ok-None-serve-clause-made g c = λ sink. made_ok_as _ _ c.in-Ok-None-serve.field-0 _ _ _ _ _ (c.in-Ok-None-serve.ensures.made sink)
